pub mod Limits
pub mod Plan
pub mod Answers
pub mod Places
pub mod Laws
