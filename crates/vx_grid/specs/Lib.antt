pub mod Paper
pub mod Grid
pub mod Sizes
pub mod Marks
pub mod Regions
pub mod Places
pub mod Borders
pub mod Kinds
