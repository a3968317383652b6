pub mod Entries
pub mod Plans
pub mod Staged
