pub mod Demand3
