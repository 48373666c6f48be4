-- The paths of a constraint: what is asked of them, and computed examples.
pub mod Paths
pub mod Examples
