-- Whole blocks taken out of the sponge.
pub mod Blocks
