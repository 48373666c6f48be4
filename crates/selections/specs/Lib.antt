-- The open selections in the field-cells area.
--   Selections   when they read
--   Exact        one cell of them, as the code tests it
--   Examples     both, computed
pub mod Selections
pub mod Exact
pub mod Examples
