pub mod Counts
pub mod Sizes
pub mod Rows
pub mod OneMore
pub mod Causes
