pub mod InternalPlace
pub mod InternalLanes
