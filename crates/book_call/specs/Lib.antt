pub mod InternalOwn
