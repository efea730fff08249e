pub mod Layout
pub mod Laying
pub mod Spending
