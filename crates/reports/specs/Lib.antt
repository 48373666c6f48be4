-- The report store.
pub mod Reports
pub mod Examples
