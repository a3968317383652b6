pub mod Words
pub mod Loops
pub mod Pairs
pub mod Lanes
