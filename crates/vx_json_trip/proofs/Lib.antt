pub mod Characters
pub mod Lines
pub mod Order
pub mod Outlines
pub mod Strings
pub mod Whole
