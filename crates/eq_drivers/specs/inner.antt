pub mod Doubling
pub mod Flagging
pub mod Choosing
