pub mod Clashes
pub mod Partitions
pub mod Plans
pub mod Reach
pub mod Refusals
pub mod Samples
pub mod Tables
pub mod inner
