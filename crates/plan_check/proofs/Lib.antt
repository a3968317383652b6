pub mod Entries
pub mod Tables
pub mod Sized
pub mod Loops
