-- A hall plan written; its length; what the counter asks; and laws.
pub mod Written
pub mod Length
pub mod Room
pub mod Laws
