pub mod Image
pub mod Promises
