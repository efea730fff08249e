pub mod Words
pub mod Refusals
pub mod Rows
pub mod Closing
pub mod Reports
pub mod Samples
