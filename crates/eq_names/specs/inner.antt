-- What proofs and private contracts cite; nothing in it has to be believed.
pub mod Segments
pub mod Parts
