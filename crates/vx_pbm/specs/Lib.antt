pub mod FaultTexts
pub mod Faults
pub mod Header
pub mod Image
pub mod Images
pub mod Raster
pub mod Raw
pub mod Step
