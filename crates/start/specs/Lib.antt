pub mod Started
pub mod Limits
pub mod Prefix
