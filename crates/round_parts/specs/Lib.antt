pub mod InternalDeliveries
