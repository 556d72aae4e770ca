pub mod Filling
pub mod Into
