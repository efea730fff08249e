pub mod Query
pub mod Unrolling
pub mod Values
pub mod inner
