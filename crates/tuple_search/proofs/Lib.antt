-- Laws of the tuple store searched:
--   Searching   the two searches over the records
--   Making      the TU of a selection, key after key
--   Cuts        what a reader takes reads alone
--   Records     a TU alone: what stands in its places
--   Found       what the searches find in a store that reads: `tuple-standing`, `found-is`, `answered-is`
--   Added       the TU that was made: `made-tail`, `made-added`
--   Keys        the keys of a finished selection
--   Answers     `answered` in a session's words
pub mod Searching
pub mod Making
pub mod Cuts
pub mod Records
pub mod Found
pub mod Added
pub mod Keys
pub mod Answers
