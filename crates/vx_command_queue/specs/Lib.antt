pub mod Queue
pub mod Outcome
pub mod Walk
pub mod Laws
