pub mod Cells
pub mod Chains
pub mod Crossing
pub mod Designs
pub mod Ports
pub mod Work
pub mod inner
