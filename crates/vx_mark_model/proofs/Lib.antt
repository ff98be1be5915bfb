pub mod Ones
pub mod Follow
pub mod Once
