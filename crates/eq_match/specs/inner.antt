pub mod Begun
pub mod Finding
pub mod Indexing
pub mod Keys
pub mod Leading
pub mod Soundness
pub mod Tables
