pub mod Cut
pub mod Paired
pub mod inner
