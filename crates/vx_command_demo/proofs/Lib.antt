pub mod Drawn
pub mod Signed
pub mod Adding
pub mod Made
pub mod Within
pub mod Held
pub mod Tried
pub mod Summed
