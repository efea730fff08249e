pub mod Happening
pub mod Placing
pub mod Processing
