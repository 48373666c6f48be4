-- `step` by the kind of the record.
--   Rows        rows that do not hold may be left out
--   Unchanged   what a record does not touch is as it was
--   Defining    ID and NS
--   Starting    ES
--   Ending      EE
--   Finishing   FI
--   Steps       all of `step`
pub mod Rows
pub mod Unchanged
pub mod Defining
pub mod Starting
pub mod Ending
pub mod Finishing
pub mod Steps
