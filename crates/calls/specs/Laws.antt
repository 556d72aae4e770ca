-- Laws on the definitions, for the crates that build on them. None is needed to read a contract.
pub mod Refusal
pub mod Input
