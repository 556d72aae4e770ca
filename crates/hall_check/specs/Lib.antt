-- Halls in two lists, and whether they keep the rules; and laws.
pub mod Lists
pub mod Laws
