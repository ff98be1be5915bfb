pub mod Orders
pub mod Lists
pub mod Places
pub mod Codes
pub mod Certified
