-- Laws of readers and records, in the order to read:
--   Readers     what is written is read again: numbers, texts, several
--   Stores      ONE LAW for stores: what is written behind a store that reads is read behind its records
--   Places      at a place of bytes a number or a text is read, or none is, by how many bytes are left
--   RoundTrip   `parse (encode r)` is `r`
pub mod Readers
pub mod Stores
pub mod Places
pub mod RoundTrip
