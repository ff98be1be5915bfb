pub mod Painted
pub mod Shapes
pub mod Outlines
pub mod Lines
pub mod Runs
