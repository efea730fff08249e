pub mod Together
pub mod Counted
pub mod Numbers
