-- A hall as it stands in a building; what holds of hall plans; and worked examples.
pub mod Tree
pub mod HallTheorems
pub mod Examples
