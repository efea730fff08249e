pub mod Standing
pub mod Running
pub mod Collecting
pub mod Following
pub mod inner
