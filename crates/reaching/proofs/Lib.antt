-- Laws of rows:
--   Rows       number by number
--   Names      the names of a session's area are those that matching takes
--   Selected   the depths and scopes of a session's selections
pub mod Rows
pub mod Names
pub mod Selected
