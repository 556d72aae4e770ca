-- What holds of migration, and worked examples.
pub mod MigrationTheorems
pub mod Examples
