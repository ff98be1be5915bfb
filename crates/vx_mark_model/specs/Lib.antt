pub mod Region
pub mod Mark
pub mod Corner
pub mod Best
pub mod Following
pub mod Border
pub mod Laws
