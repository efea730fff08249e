pub mod Carrying
pub mod Marks
pub mod Clocking
pub mod Taking
pub mod Missing
pub mod Events
pub mod Headers
pub mod Comparing
