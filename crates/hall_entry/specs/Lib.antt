-- Halls and entries: the limits, what they are, an entry in bytes, the answer of reading one; and laws.
pub mod Limits
pub mod Entries
pub mod Bytes
pub mod Answers
pub mod Laws
