pub mod Backs
pub mod Clear
pub mod Suspected
pub mod Traced
pub mod Looped
