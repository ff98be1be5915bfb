pub mod Either
pub mod Counted
pub mod Whole
pub mod Sums
pub mod Paired
pub mod Short
pub mod Planned
pub mod Kept
pub mod Within
mod Fitting
pub mod Keepable
