pub mod Counting
pub mod EvidenceProp
pub mod Items
pub mod Judging
pub mod Numeral
pub mod Reading
pub mod Standing
pub mod Tries
