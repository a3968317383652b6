pub mod Joint
pub mod Loops
