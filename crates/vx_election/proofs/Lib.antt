pub mod Places
pub mod Each
pub mod Bytes
pub mod Readings
pub mod Validity
