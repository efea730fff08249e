pub mod Bytes
pub mod Separators
pub mod Words
pub mod Marks
pub mod Numbers
pub mod Pieces
pub mod Tokens
