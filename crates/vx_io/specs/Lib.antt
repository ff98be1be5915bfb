pub mod Asking
pub mod Fakes
pub mod Keeping
pub mod Laws
pub mod Outside
pub mod Real
pub mod Take
