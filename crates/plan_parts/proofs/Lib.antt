pub mod Chains
pub mod Sized
pub mod Lowest
pub mod Finding
pub mod Changed
pub mod Listed
pub mod Loops
