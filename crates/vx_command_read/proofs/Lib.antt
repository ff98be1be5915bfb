pub mod ImageTexts
pub mod ImageActs
pub mod ScanActs
pub mod Told
