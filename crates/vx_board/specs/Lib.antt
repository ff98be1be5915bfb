pub mod Ballots
pub mod Contests
pub mod Page
pub mod Data
pub mod Outcome
pub mod Laws
pub mod Written
