pub mod Pieces
pub mod Loops
pub mod Writing
pub mod Samples
