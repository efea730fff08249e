-- What proofs and private contracts cite; nothing in it has to be believed.
pub mod Drafts
pub mod Stopping
pub mod Wholes
