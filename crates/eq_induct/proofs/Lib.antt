pub mod Counting
pub mod CourseLemmas
pub mod Induction
pub mod Orders
pub mod Places
pub mod TryLemmas
pub mod Verdicts
