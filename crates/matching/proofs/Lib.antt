-- Laws of the walks, in the order to read:
--   Names     the open names by their places, and which of them n steps take
--   Tests     a name test by its bytes, and whether a name fits it
--   Walking   the steps of an alternative, and its end
--   Paths     the alternatives of a path, one behind the other
pub mod Names
pub mod Tests
pub mod Walking
pub mod Paths
