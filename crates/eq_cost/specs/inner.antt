pub mod Lines
pub mod Operating
pub mod Seeing
pub mod Connecting
pub mod Gates
pub mod Valuing
