pub mod NamedBubbles
pub mod Counted
pub mod PageActs
pub mod Certified
