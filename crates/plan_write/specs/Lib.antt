pub mod Write
pub mod Room
pub mod RoundTrip
pub mod WriteLaws
