-- Field cells as values and in bytes, and computed examples.
pub mod Cells
pub mod Examples
