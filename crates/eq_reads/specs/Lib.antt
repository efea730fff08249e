pub mod Graph
pub mod Words
pub mod inner
