pub mod Journals
