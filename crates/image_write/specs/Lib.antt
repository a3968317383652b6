pub mod InternalUpto
