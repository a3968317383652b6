pub mod Samples
pub mod Stages
