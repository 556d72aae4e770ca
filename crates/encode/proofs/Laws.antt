-- Laws on the definitions, for the crates that build on them. None is needed to read a contract.
pub mod Encode
pub mod Lengths
pub mod Padding
pub mod Answer
pub mod Bytes
