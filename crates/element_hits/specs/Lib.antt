-- The hits of the element that ends:
--   ElementHits   the promise: a number for each field of each open selection
--   Rows          what its parts do: one scope, its fields, one field
--   Examples      computed
pub mod ElementHits
pub mod Rows
pub mod Examples
