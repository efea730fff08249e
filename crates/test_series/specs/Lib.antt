pub mod Additions
pub mod Carries
pub mod Lists
pub mod Stages
