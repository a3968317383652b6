pub mod Shifts
pub mod Spreads
pub mod Passes
pub mod Counts
pub mod Loops
