-- What the functions over an allowance's numbers rest on.
--   Reading   the jobs in the numbers, one after another, and what is left of T behind them
--   Writing   one number written is one job changed; jobs begun one after another
--   Meeting   what a call for a job meets, what it spends, set-up
--   Naming    the dispatcher's loop
--   Whole     the 34 numbers are all that an allowance holds
pub mod Reading
pub mod Writing
pub mod Meeting
pub mod Naming
pub mod Whole
