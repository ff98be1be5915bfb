pub mod Outcome
pub mod Setting
pub mod Laws
