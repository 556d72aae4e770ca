-- The proofs of what specs/ states.
pub mod Facts
pub mod Laws
