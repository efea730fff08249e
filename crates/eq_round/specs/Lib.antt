pub mod Work
pub mod Done
pub mod Causes
