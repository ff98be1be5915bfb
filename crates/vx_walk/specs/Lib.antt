pub mod First
pub mod Walk
pub mod Walked
pub mod Steps
