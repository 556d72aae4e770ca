-- The definitions, in the order to read them; then the facts P1 to P7, and the laws.
pub mod Digits
pub mod Padding
pub mod Encode
pub mod Answer
pub mod Private
pub mod Facts
pub mod Laws
