pub mod Numbers
pub mod Plans
pub mod Halls
pub mod Pairs
pub mod Located
pub mod PlaceTheorems
pub mod Examples
