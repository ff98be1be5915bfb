pub mod Moving
mod Calls
mod Centered
mod Journals
mod Named
pub mod Adding
mod Adds
mod Ended
