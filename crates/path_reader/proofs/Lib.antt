-- Laws of path_reader.
pub mod Tests
pub mod Names
pub mod Spaces
pub mod Plain
pub mod Writing
pub mod Short
pub mod Parts
pub mod Walking
pub mod Alternatives
pub mod Parsing
