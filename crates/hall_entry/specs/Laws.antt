pub mod Induction
pub mod Heads
pub mod Bytes
