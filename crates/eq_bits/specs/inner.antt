pub mod Building
pub mod Computing
pub mod PartProp
pub mod Replaying
