pub mod PrintedText
pub mod Front
pub mod Samples
