-- Jobs that share a memory allowance.
--   Allowance   guarantees, caps and uses; set-up, when a state fits, what is admitted, closing
--   Numbers     the 34 numbers that hold an allowance
--   Dispatcher  which job is served next
--   Examples    computed
pub mod Allowance
pub mod Numbers
pub mod Dispatcher
pub mod Examples
