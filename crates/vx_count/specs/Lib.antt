pub mod Words
pub mod Sums
pub mod Cut
pub mod Turned
