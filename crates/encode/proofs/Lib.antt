-- The facts, and lemmas on the bytes that the functions write.
pub mod Facts
mod BigEndian
mod Codes
pub mod Laws
