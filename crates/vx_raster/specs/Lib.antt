pub mod Shape
pub mod Dots
