pub mod Limbs
pub mod Bound
pub mod Enough
pub mod Counts
pub mod Laws
