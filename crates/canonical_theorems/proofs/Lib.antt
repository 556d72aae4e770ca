pub mod Plans
pub mod Halls
pub mod HallAnswers
pub mod CanonicalTheorems
