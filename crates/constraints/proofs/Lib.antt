-- Laws of the constraints in the definition store, in the order to read:
--   Cuts      records that were cut off, one behind the other, are read as those records
--   Owns      the records of one constraint: where they begin, and where they end
--   Ids       the walk of an ID, taken apart
--   Places    the parts of an ID by their places
--   Fields    field i is what a walk over the texts comes to
--   Bits      a set of numbers as bits
--   Heads     mark, kind and name in the head of a record, test by test
--   Sets      the IDs of a store one after the other: those that bear a name, and how many there are
--   Replays   in a store that reads, the records with the mark of an ID are those of the definitions, and at most 32
--   Stored    LAWS for callers: what the records of a constraint are in such a store, and what its number stands for
--   Bearing   the set of those that bear a name, in such a store
pub mod Cuts
pub mod Owns
pub mod Ids
pub mod Places
pub mod Fields
pub mod Bits
pub mod Heads
pub mod Sets
pub mod Replays
pub mod Stored
pub mod Bearing
