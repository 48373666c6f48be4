-- Laws of bindings in bytes, in the order to read:
--   Reading     the text at a place
--   Heads       the mark at the front of a record
--   Binding     what one record binds a prefix to
--   Frames      a prefix in the records one behind the other
--   Finding     where the URI of a prefix stands
--   Stretches   the URI in its stretch against an element's namespace
--   Same        a record's binding is the one that `parse` gives
--   Uris        what bytes bind a prefix to is what the definitions say
pub mod Reading
pub mod Heads
pub mod Binding
pub mod Frames
pub mod Finding
pub mod Stretches
pub mod Same
pub mod Uris
