pub mod Refusals
pub mod Answers
pub mod RoundTrip
pub mod Facts
