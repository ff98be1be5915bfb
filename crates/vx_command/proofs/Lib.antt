pub mod Acts
pub mod Written
mod Read
mod Kept
mod Asking
