pub mod Branches
pub mod Counts
pub mod Joins
pub mod Blocks
pub mod WellCode
pub mod Loops
