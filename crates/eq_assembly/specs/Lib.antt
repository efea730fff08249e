pub mod Assembled
pub mod inner
