-- Small modules on which the definitions are tried, each as it is written in Verilog and as a tree.
pub mod Comparing
