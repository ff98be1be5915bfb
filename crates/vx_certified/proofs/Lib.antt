pub mod FaultLines
pub mod Sayable
pub mod Texts
pub mod Pages
pub mod Whole
pub mod Drawing
pub mod DemoPages
pub mod Demos
pub mod Said
mod DemoElection
