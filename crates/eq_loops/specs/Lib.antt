pub mod Components
pub mod Cycle
pub mod inner
