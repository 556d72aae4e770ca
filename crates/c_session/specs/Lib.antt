-- Calls in a row from C; then what holds of a session that could not start, and the joined-bytes rule.
pub mod HistoryFromC
pub mod UnstartedFromC
pub mod JoinedFromC
