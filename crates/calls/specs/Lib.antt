-- What the calls of the library promise, and runs of them.
--   Calls    what a call answers and leaves, and a fresh session
--   Runs     calls one after another, each with all as the last one left it
--   Buffers  a buffer of records
--   Running  what a run over a buffer answers and leaves
--   Examples computed
pub mod Calls
pub mod Runs
pub mod Buffers
pub mod Running
pub mod Examples
