-- A passed path is always checked.
--   Sixes        kind 6 is of constraints that do not read
--   Grammatical  name tests with slashes between are a path of the grammar
--   Passing      `canonical-passes`: the canonical text of a path that passes passes
--   Theorems     `pass-reads`, `passes-reads`, `in-force`, `never-six`, `door-never-six`, `spelling-reads`,
--                `same-constraint`, `canonical-checked`, `canonically-passes`
--   Bindings     `bindings-fit`: what a session's bindings declare is a text that the checker takes
--   Found        `prefixes-found`: every prefix of a passed path is found by the session
pub mod Sixes
pub mod Grammatical
pub mod Passing
pub mod Theorems
pub mod Bindings
pub mod Found
