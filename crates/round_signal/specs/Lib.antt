pub mod InternalSignalling
