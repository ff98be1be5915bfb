pub mod Packing
pub mod Clipping
pub mod Filling
pub mod Rasters
