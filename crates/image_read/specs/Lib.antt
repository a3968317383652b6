pub mod InternalArrays
pub mod InternalFront
