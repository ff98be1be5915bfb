pub mod Acts
pub mod Bitmaps
pub mod Asked
