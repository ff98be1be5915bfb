pub mod MarkPlaces
pub mod Papers
