pub mod Answers
pub mod Attempts
pub mod Outcome
pub mod inner
