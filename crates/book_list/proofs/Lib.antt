pub mod Upto
pub mod Kept
pub mod Widths
pub mod Singly
pub mod Instances
