-- The laws of the record call's arms, and of the run as the code goes through it.
--   Arms       each kind of record: its own call is the record call
--   Marking    the marks of a run, record by record
--   Running    a run over a buffer as the code goes through it
pub mod Arms
pub mod Marking
pub mod Running
