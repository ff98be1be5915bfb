pub mod Waits
pub mod Told
pub mod SheetActs
pub mod ImageActs
pub mod PieceActs
pub mod ScanActs
pub mod InputActs
pub mod Sets
pub mod Journals
pub mod Held
pub mod Recorded
pub mod Standing
pub mod Said
mod Ends
mod AllAdded
