pub mod Strings
pub mod Answers
pub mod Calls
