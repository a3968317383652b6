pub mod Define
pub mod Every
pub mod InternalFilled
