-- The limits; the definitions, in the order of a sealing; what a caller gets back; facts and theorems.
pub mod Limits
pub mod Aead
pub mod Refusals
pub mod Answers
pub mod Facts
pub mod RoundTrip
