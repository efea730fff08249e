pub mod Blasted
pub mod inner
