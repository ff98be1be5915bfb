pub mod Answered
pub mod Margin
