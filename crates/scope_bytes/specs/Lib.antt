-- The open scopes as bytes.
--   ScopeBytes   a scope's record of 12 bytes, and sixteen of them
--   Examples     both ways, computed
pub mod ScopeBytes
pub mod Examples
