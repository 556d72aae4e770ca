-- The construction; then what is asked of it.
pub mod Kmac
pub mod RoundTrip
