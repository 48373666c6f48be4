-- The tuple store searched.
--   Search     the keys of a selection, the TU made of them, and what a search finds
--   Examples   computed
pub mod Search
pub mod Examples
