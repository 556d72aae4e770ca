-- The refusal table's numbers; what a call hands back by its number; where a plan is malformed; and laws.
pub mod Numbers
pub mod Done
pub mod Breaches
pub mod Places
pub mod Laws
