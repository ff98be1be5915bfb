pub mod Plane
pub mod Count
