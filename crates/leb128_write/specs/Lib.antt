pub mod Written
pub mod Answers
pub mod Room
pub mod Theorems
