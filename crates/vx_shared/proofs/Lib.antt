pub mod Totals
pub mod Prefixes
pub mod Marking
pub mod Legally
pub mod Steps
pub mod Turning
pub mod Counting
pub mod Parting
pub mod Ending
pub mod Joining
pub mod Crossing
pub mod Gathering
pub mod Mixing
pub mod Gaining
pub mod Rejoining
pub mod Halving
pub mod Replaying
mod Mixed
mod FirstDone
