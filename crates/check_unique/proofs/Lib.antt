pub mod Apart
pub mod Naming
