-- What the tuple store and the report store have in common.
pub mod Stores
pub mod Examples
