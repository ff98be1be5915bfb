pub mod Marks
pub mod Flips
pub mod Shown
pub mod Deficits
pub mod Chains
pub mod Turned
pub mod Laws
