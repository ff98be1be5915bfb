pub mod Options
pub mod Script
pub mod Laws
