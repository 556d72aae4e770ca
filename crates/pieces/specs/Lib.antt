-- The definitions; then facts, and the laws.
pub mod Pieces
pub mod Facts
