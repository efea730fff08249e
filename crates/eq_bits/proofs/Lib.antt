pub mod Computing
pub mod Growing
pub mod Meanings
pub mod OneReplay
pub mod Replays
pub mod Tables
