pub mod Lawful
pub mod StreamAndTag
pub mod Steps
pub mod RoundTrip
