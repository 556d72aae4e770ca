pub mod Numbers
pub mod Plans
pub mod Lengths
pub mod Places
pub mod Examples
pub mod MigrationTheorems
