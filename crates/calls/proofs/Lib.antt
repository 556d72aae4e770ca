-- The proofs of what specs/ states.
pub mod FedAlike
pub mod Facts
pub mod Samples
pub mod Laws
