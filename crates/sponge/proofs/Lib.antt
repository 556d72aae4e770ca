pub mod Absorbing
pub mod Squeezing
pub mod Whole
pub mod Chain
