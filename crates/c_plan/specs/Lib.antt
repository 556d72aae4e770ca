pub mod Row
pub mod Walk
