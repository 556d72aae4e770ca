pub mod Migration
pub mod Room
