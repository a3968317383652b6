pub mod InternalMembers
