pub mod Outcome
pub mod Runs
pub mod Arguments
pub mod Counting
pub mod Journals
pub mod Adding
