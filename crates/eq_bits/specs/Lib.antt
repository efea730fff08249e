pub mod Node
pub mod Part
pub mod Cycle
pub mod Replay
pub mod Shared
pub mod inner
