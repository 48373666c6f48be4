-- How the code counts and reads totals.
--   Places    which of the 96 numbers a record that was taken raises, one after the other
--   Readings  what the code's answers stand for
--   Examples  computed
pub mod Places
pub mod Readings
pub mod Examples
