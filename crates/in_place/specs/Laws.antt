-- Laws on the definitions, for the crates that build on them.
pub mod Rotation
pub mod Linear
pub mod Complementing
pub mod FiveLanes
pub mod ChiForms
pub mod ChiRows
pub mod Passes
pub mod Turns
