-- Laws of the index of answers.
--   Answered   the search along the slots is the walk over all records
--   Noting     one record more
--   Tables     a table emptied, written and searched
pub mod Answered
pub mod Noting
pub mod Tables
