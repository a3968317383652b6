pub mod Faults
pub mod Rate
pub mod Window
pub mod Lists
pub mod Feeds
