-- Laws of a selection's outcome:
--   Walking    cell by cell
--   Outcomes   the tests on states are the tree's tests on cells
pub mod Walking
pub mod Outcomes
