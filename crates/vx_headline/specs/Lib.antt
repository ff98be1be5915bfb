pub mod Counted
pub mod Exported
pub mod Undecided
pub mod Stacks
pub mod Day
