pub mod Carrying
pub mod Crossing
pub mod Inserting
pub mod Partitioning
pub mod Sized
