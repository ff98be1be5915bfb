pub mod Rankings
pub mod Rounds
pub mod Piles
pub mod Laws
