pub mod Replay
pub mod Replaying
pub mod Keeping
pub mod Steps
pub mod Laws
