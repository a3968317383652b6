pub mod ImageBytes
pub mod Loops
