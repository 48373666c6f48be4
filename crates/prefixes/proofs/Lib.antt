-- `words-are-prefixes` (`Decoded`), and the laws of two sequences that are compared and of the words.
pub mod Spelling
pub mod Words
pub mod Decoded
