pub mod Answers
pub mod RunningChanges
