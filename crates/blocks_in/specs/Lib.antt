-- Whole blocks put into the sponge; then the same on the places of the state.
pub mod Blocks
pub mod Columns
