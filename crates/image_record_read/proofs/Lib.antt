pub mod Exits
pub mod Refusals
pub mod Values
pub mod Walk
pub mod Loops
