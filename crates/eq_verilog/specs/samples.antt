-- Small modules on which the definitions are tried, each as it is written in Verilog and as a tree.
pub mod Writing
pub mod Operands
pub mod Hierarchies
pub mod Assignments
pub mod Clocking
pub mod Refused
pub mod Several
