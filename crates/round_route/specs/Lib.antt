pub mod InternalRouted
