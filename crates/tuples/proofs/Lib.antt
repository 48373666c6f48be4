-- Laws of the tuple store, in the order to read:
--   Behind     what is left behind so many records or texts
--   Texts      texts one behind the other: their bytes, and where each stands
--   Reading    a TU at the front, and how long it is
--   Walking    one TU passed
--   Fields     where a field stands, within the used bytes
--   Views      the used part that a view looks at
--   Sessions   what `tuples_read` says of a session
pub mod Behind
pub mod Texts
pub mod Reading
pub mod Walking
pub mod Fields
pub mod Views
pub mod Sessions
