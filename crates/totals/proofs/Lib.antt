-- That the totals of a run are those of the tree, in the order to read.
--   Reached  an event adds to what is reached what it finishes
--   Growing  how much a happening and FI put out at most
--   Brought  what a record brings is what the tree has more, and it is little
--   Unknown  nothing is of a number that no constraint has
--   Runs     the entries after calls from set-up, and that the rest of the session goes as without them
--   Claims   what is read after any calls: `totals-are`, `totals-stored`
pub mod Reached
pub mod Growing
pub mod Brought
pub mod Unknown
pub mod Runs
pub mod Claims
