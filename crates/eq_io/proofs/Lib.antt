pub mod FilesInMemory
pub mod Appending
pub mod FileLaws
