pub mod Counted
pub mod Fakes
pub mod Faults
pub mod Files
