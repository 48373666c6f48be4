-- What each kind of record comes to, in what code can count and write.
--   Plans      the rows that can hold of each kind, and the world after it
--   Examples   single rows and parts of that world, computed
pub mod Plans
pub mod Examples
