pub mod Provings
