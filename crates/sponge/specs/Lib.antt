-- The sponge of FIPS 202, by blocks; the same a byte at a time; and that they are the same.
pub mod Sponge
pub mod Running
pub mod Same
