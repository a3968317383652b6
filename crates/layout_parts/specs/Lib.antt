pub mod InternalPlaces
