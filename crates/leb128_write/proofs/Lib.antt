pub mod Theorems
pub mod Writing
pub mod Laws
pub mod FormLaws
