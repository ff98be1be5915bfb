pub mod Json
pub mod Names
pub mod Votes
pub mod Rows
pub mod Report
pub mod Texts
pub mod Pieces
pub mod Laws
