-- Writing a hall plan; what the stores ask; and laws.
pub mod Write
pub mod Room
pub mod Laws
