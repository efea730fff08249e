pub mod Added
pub mod Listed
pub mod Rippled
pub mod Staged
