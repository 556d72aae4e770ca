pub mod Trees
pub mod Lists
pub mod OneHall
pub mod NotBoth
pub mod HallTheorems
pub mod Examples
