pub mod Counter
pub mod Forms
pub mod Operators
pub mod Ripple
pub mod Steps
pub mod Vectors
