pub mod Counting
pub mod Witnessing
