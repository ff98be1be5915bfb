pub mod Bits
pub mod Code
