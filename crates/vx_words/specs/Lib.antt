pub mod Moments
pub mod Devices
pub mod Samples
pub mod Names
pub mod Words
pub mod Line
pub mod Items
