pub mod Back
pub mod Joined
pub mod Unstarted
