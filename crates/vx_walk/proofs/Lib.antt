pub mod ImageActs
pub mod InputActs
pub mod ScanActs
