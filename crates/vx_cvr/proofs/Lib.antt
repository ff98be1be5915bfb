pub mod Added
pub mod Escaped
pub mod Worded
pub mod Made
pub mod Floatless
pub mod Order
pub mod Rows
mod Keyed
pub mod Joined
