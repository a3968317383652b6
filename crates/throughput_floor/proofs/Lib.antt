pub mod Joined
pub mod Several
pub mod Instances
