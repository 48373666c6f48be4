-- Laws of a table of places: what one more entry keeps, the walk that makes the entries, and what is found by it.
pub mod Places
pub mod Examples
