pub mod Answering
pub mod Zipped
