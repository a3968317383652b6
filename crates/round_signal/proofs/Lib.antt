pub mod FloorSignals
pub mod PassLaws
pub mod ReasonLaws
pub mod SignalFloor
pub mod AfterRoute
pub mod Loops
