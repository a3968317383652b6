pub mod InternalTileSignal
