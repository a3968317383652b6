pub mod Barges
pub mod Lists
pub mod PerFloor
pub mod Alike
