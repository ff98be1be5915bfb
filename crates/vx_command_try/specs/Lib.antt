pub mod Lines
pub mod Outcome
pub mod Setting
pub mod Laws
