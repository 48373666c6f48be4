-- The names of the open elements in their area.
pub mod OpenNames
pub mod Examples
