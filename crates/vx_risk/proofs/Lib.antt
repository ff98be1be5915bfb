pub mod Numerals
pub mod Products
pub mod Least
pub mod Halving
pub mod Drawn
pub mod Rounded
pub mod Ordered
