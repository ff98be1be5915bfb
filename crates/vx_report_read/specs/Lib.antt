pub mod Exported
pub mod Totals
pub mod Texts
