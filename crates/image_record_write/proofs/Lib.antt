pub mod RecordBytes
pub mod Loops
