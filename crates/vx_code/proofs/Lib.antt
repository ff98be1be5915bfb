pub mod Numbers
pub mod Fields
pub mod Pairs
pub mod Tags
pub mod Readings
pub mod Read
