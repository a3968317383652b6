pub mod InternalGroups
