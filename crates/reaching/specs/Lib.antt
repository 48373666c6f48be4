-- How often a node hits one field of the open selections: the promise, and computed examples.
pub mod Rows
pub mod Examples
