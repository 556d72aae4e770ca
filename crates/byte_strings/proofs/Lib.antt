pub mod Combining
pub mod Comparing
