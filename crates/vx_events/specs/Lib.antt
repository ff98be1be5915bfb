pub mod Ascending
pub mod Fits
