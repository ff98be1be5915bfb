pub mod Json
pub mod Election
pub mod Trials
pub mod Sums
pub mod Summary
pub mod Outcome
pub mod Adding
