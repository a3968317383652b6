pub mod Tests
pub mod Lists
pub mod Search
pub mod Tables
pub mod Bits
pub mod Count
pub mod SetBits
