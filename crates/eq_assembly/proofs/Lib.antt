pub mod NamesApart
pub mod TopFaults
pub mod TopNets
pub mod Inputs
pub mod PortNumbers
pub mod ClockNet
pub mod NetReady
pub mod TopNames
