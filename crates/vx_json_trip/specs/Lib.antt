pub mod Trips
pub mod Strings
