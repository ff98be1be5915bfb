pub mod Answers
pub mod Outcome
pub mod Walks
pub mod Margin
