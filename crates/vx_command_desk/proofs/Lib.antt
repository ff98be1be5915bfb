pub mod SheetActs
pub mod Silent
mod Ends
