-- Passing is the grammar (`Meets`), and the laws on the way to it, in order.
pub mod Chars
pub mod Scans
pub mod Tokenizes
pub mod Walks
pub mod Meets
