pub mod Flag
pub mod FlagLaws
