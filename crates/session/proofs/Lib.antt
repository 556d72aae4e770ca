pub mod CallCase
pub mod Totals
pub mod EmptyPiece
pub mod Given
pub mod Numbers
pub mod Joined
pub mod Unstarted
