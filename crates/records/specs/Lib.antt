-- The five records that are handed in, in the order to read: readers of bytes, refusals, records.
pub mod Readers
pub mod Refusals
pub mod Records
pub mod Examples
pub mod Clauses
