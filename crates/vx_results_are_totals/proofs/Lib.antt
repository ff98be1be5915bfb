pub mod Totals
pub mod Waiting
pub mod Sampled
