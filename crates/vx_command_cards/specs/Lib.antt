pub mod Drawn
pub mod Lines
pub mod Cards
pub mod Texts
pub mod Alike
pub mod Outcome
pub mod Laws
