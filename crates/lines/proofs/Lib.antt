-- The laws of the lines.
--   Words   a number in decimal and the byte behind it
--   Filled  a line, word after word
--   Counts  the tuples of a store that reads
--   Reports the report that bytes hold
pub mod Words
pub mod Filled
pub mod Counts
pub mod Reports
