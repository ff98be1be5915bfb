pub mod SheetActs
pub mod Sets
mod Accepted
