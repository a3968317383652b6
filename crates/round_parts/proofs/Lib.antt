pub mod Delivered
pub mod Ways
