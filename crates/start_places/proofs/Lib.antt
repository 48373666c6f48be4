-- What is promised of listed constraints, computed of a small store.
pub mod Examples
