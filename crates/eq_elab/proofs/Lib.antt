pub mod BitNames
pub mod LoopNames
pub mod Checked
pub mod Steps
pub mod Looped
pub mod Netted
