pub mod Places
pub mod Deficits
pub mod Bests
pub mod Corners
