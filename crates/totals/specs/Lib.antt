-- The totals of a session: of each constraint the selections finished, the tuples and the reports.
--   Counts   the three counts, of a tree and of what it puts out; and which selections an event finishes
--   Totals   32 entries of three numbers: their limit, what a record brings to them, what is read from them
--   Calls    the record call of a session with its totals, and calls one after another
--   Examples computed
pub mod Counts
pub mod Totals
pub mod Calls
pub mod Examples
