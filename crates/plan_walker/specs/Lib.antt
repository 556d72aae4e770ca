pub mod Walker
pub mod Walks
