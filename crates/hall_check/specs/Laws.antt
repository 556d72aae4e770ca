pub mod Pairs
pub mod Heads
pub mod Taken
