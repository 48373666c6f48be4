-- A table of places in a tuple store.
--   Places     what is true of the table, and what a search by it finds
--   Examples   computed
pub mod Places
pub mod Examples
