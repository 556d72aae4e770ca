-- The answers without their place; what holds of places; and worked examples.
pub mod Without
pub mod PlaceTheorems
pub mod Examples
