pub mod Marks
pub mod Examples
