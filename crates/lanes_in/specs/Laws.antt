-- Laws on the definitions, for the crates that build on them.
pub mod Lanes
