-- An index of the tuple store.
--   Index      its slots, the search along them, and what is true of it
--   Covers     the table that it stands in, and how much of a store it covers
--   Examples   computed
pub mod Index
pub mod Covers
pub mod Examples
