pub mod Packed
pub mod Tests
pub mod Loops
