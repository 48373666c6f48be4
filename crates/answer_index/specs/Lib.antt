-- An index of the tuples that answer keyrefs.
--   Answers    classes of constraints, and what is true of the index
--   Examples   computed
pub mod Answers
pub mod Examples
