pub mod Elaborating
pub mod Naming
pub mod Looping
