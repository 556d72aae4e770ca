-- The definition of a seeding; then facts by computation, and the laws.
pub mod Seeding
pub mod Facts
