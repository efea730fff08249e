pub mod Drafted
pub mod Pushed
pub mod Rows
