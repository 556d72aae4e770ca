-- A hall plan; what one pass over its entries keeps; the answers; and laws.
pub mod Halls
pub mod Passing
pub mod Answers
pub mod Laws
