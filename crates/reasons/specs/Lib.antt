-- The path checker: what it answers, and computed answers.
pub mod Reasons
pub mod Examples
pub mod Clauses
