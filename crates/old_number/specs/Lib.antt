pub mod OldNumber
pub mod Laws
