pub mod Ports
pub mod Missing
pub mod Events
pub mod Told
pub mod Answers
pub mod samples
pub mod inner
