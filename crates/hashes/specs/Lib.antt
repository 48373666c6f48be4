pub mod Hashes
pub mod Examples
