-- The definitions, in the order to read them; then the laws. No contract of the permutation itself cites them.
pub mod Complemented
pub mod Places
pub mod Rows
pub mod Rounds
pub mod Laws
