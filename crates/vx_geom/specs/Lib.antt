pub mod Slants
pub mod Seen
pub mod Turned
pub mod Laws
pub mod Back
