-- What a finished selection comes to, by the bytes of its cells.
pub mod Outcomes
pub mod Examples
