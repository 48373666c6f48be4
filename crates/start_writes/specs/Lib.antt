-- What an ES writes for sets of places.
--   Writes     new scopes, the numbers of places, and what each call leaves
--   Examples   the same, computed
pub mod Writes
pub mod Examples
