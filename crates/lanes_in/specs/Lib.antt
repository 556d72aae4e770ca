-- A word of eight bytes; then laws on words and lanes.
pub mod Words
pub mod Laws
