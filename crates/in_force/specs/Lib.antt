-- A passed path is always checked.
--   InForce   when all paths of a constraint pass, and what is then never told; the prefixes of a path; canonical
--             spelling
--   Examples  computed
pub mod InForce
pub mod Examples
