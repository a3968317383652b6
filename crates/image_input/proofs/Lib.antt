pub mod Front
pub mod Instances
