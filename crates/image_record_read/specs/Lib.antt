pub mod InternalScan
