pub mod Reading
pub mod Load
pub mod Places
pub mod Loops
