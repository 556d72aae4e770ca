-- Reading into lists; entries one after another, whatever the halls; and laws.
pub mod Lists
pub mod Sequence
pub mod Laws
