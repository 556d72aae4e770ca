pub mod Reading
pub mod Failing
