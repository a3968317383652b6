pub mod InternalDiffer
pub mod InternalNames
