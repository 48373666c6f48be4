-- What holds of every invoice, in the order to read.
--   Order   the lines in any order give the same
--   Bounds  no sum passes 64 bits
--   Runs    after any calls it is the invoice of the tree's own counts
pub mod Order
pub mod Bounds
pub mod Runs
