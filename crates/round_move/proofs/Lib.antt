pub mod Pass
pub mod Turn
pub mod Lift
pub mod Loops
pub mod Rounds
