pub mod Parts
pub mod Few
pub mod Within
pub mod Samples
pub mod Instances
