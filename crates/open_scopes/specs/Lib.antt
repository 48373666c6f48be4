-- The open scopes by value, and the counts of a session.
--   OpenScopes   the first places of a list of sixteen, one more, fewer; when they fit
--   Counting     the packed number; when the numbers and lengths of a session fit
--   Examples     both, computed
pub mod OpenScopes
pub mod Counting
pub mod Examples
