pub mod Options
pub mod Reasons
pub mod Ids
pub mod Dates
pub mod Lists
pub mod Labels
pub mod Valid
