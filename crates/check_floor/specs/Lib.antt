pub mod InternalTile
pub mod InternalCode
