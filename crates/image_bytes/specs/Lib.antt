pub mod Bytes
pub mod InternalPut
