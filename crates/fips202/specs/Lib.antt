-- The permutation, and bytes of its state; then laws and worked examples. None of those is needed to read a contract.
pub mod Fips202
pub mod Bytes
pub mod Laws
