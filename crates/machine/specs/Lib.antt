-- The streaming machine, and documents run on it.
pub mod Machine
pub mod Examples
pub mod Clauses
