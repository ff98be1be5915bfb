pub mod Named
pub mod Margin
