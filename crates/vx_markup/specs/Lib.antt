pub mod Json
pub mod Escaped
pub mod Laws
