pub mod Parts
pub mod Singly
