-- What the writer promises, and what its functions promise each other.
pub mod Spelling
pub mod Examples
