pub mod Parsing
pub mod Places
