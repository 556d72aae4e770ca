-- The definitions, in the order to read them; then demand 3 of the three functions, facts by computation, and the laws.
pub mod Limits
pub mod Input
pub mod Start
pub mod Call
pub mod Count
pub mod Arguments
pub mod FedAlike
pub mod Facts
pub mod Samples
pub mod Laws
