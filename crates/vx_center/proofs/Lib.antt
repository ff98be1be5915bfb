pub mod Places
pub mod Adding
pub mod Keys
pub mod Following
pub mod Entries
pub mod Few
pub mod Numbered
pub mod Finding
pub mod Answered
pub mod Rowed
pub mod Keyed
pub mod Lasting
pub mod Answering
mod Histories
mod OwnSheets
mod Alone
mod FirstDecided
mod Shown
