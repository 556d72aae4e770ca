-- The contracts cite FIPS 202's own definitions, those of the crate fips202; here are the laws on them.
pub mod Laws
