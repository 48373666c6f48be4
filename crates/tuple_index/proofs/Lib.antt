-- Laws of the index.
--   Numbers    where the slots of a text begin
--   Found      the search along the slots is the walk over all records
--   Entering   one record more, in the first free slot from its own on
--   Words      the slots as words: the search, a slot read and a slot written
--   Covering   how much of a store is covered: one record more, a store that grows, a table found in
pub mod Numbers
pub mod Found
pub mod Entering
pub mod Words
pub mod Covering
pub mod Growing
pub mod Tables
pub mod Steps
