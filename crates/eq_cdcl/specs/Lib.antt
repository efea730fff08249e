pub mod Halting
pub mod Logged
pub mod Answer
pub mod inner
