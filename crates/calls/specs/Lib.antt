pub mod InternalRefused
