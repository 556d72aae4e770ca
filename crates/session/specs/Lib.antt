-- Calls in a row on a session; then what holds of a session that could not start, and the joined-bytes rule.
pub mod History
pub mod Unstarted
pub mod Joined
