-- The tuple store: what the functions answer, and stores written out.
pub mod Tuples
pub mod Examples
