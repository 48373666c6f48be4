-- Laws of records one behind the other:
--   Fronts   the record at the front of bytes, cut off by the length that it states
--   Walks    the records that stand in bytes, one after the other: the first one, those behind it, and where it begins
pub mod Fronts
pub mod Walks
