-- Laws of the well-formedness test:
--   Decodes   the tests that `decode` makes, as a conjunction; what the answer says of a session
--   Counted   the counts of a world that is lent
--   Fields    how many fields a constraint has, and those of the open scopes
--   Areas     the areas and the output stores, test after test
--   Whole     all of it
pub mod Decodes
pub mod Counted
pub mod Fields
pub mod Areas
pub mod Whole
