pub mod Expressions
pub mod Targets
pub mod Statements
pub mod Items
pub mod Headers
pub mod Sources
