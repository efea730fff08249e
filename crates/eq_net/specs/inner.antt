-- Cited by proofs alone; nothing here has to be believed.
pub mod Stack
pub mod Gates
pub mod Sized
pub mod Marks
pub mod Cells
pub mod CellSteps
pub mod Circuits
