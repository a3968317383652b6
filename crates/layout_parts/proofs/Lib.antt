pub mod Places
pub mod Tiles
pub mod Loops
