pub mod Sayable
pub mod Certified
pub mod Truth
