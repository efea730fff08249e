pub mod Writing
pub mod Choosing
pub mod Stepping
pub mod Adding
