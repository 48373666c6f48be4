-- The definitions at work: what is in the grammar, what isn't, and the laws by which examples of both are short.
pub mod Words
pub mod Examples
pub mod Walks
pub mod Outside
