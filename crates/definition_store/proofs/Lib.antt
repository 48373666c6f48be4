-- Laws of the definition store, in the order to read:
--   Judging    the tests of a verdict one after another
--   Verdicts   the verdicts are what a session asks of an ID and an NS record
--   Tallies    one record more: its tally, and that it is counted exactly where it is taken
--   Replays    the definitions of bytes: the first record and the rest, and one more behind the others
--   Limits     how much a store that reads can hold
--   Counting   one record by its places
--   Walks      the walk over the store
pub mod Judging
pub mod Verdicts
pub mod Tallies
pub mod Replays
pub mod Limits
pub mod Counting
pub mod Walks
