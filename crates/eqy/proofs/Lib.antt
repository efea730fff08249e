pub mod Mirrored
pub mod Ports
pub mod Made
pub mod Listed
pub mod Fronts
pub mod Stopped
pub mod Outcomes
pub mod Equal
