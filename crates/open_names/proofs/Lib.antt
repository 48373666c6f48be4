-- Laws of the open names, in the order to read:
--   Colons     the part after the last ':'
--   Written    a name in its place, and that it is read again
--   Reading    when a text, a name and a row of names are read
pub mod Colons
pub mod Written
pub mod Reading
