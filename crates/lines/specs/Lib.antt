-- The lines that a run is told by.
pub mod Lines
pub mod Examples
