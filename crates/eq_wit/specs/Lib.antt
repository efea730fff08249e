pub mod Line
pub mod Texts
pub mod Evidence
pub mod Tried
pub mod Faults
pub mod Lrat
pub mod Samples
pub mod inner
