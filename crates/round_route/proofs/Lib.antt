pub mod Passes
pub mod RouteLaws
pub mod RouteFloor
