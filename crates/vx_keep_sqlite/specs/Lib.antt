pub mod OnFile
pub mod Refusals
pub mod Sealed
pub mod Statements
