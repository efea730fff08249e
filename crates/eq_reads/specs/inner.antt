-- Cited by proofs alone; nothing here has to be believed.
pub mod Chains
pub mod Drawing
pub mod Leading
pub mod Reading
pub mod Shapes
