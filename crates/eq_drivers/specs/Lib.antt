pub mod Telling
pub mod Wiring
pub mod inner
