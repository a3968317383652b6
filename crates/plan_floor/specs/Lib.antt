pub mod Steps
pub mod Ending
pub mod Promises
