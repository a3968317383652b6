pub mod Line
pub mod Loops
