-- The generator's state as C has it; then that nothing of it is lost there and back.
pub mod Generator
pub mod ThereAndBack
