-- Laws of field cells.
pub mod Writes
pub mod Values
pub mod Places
pub mod Selections
pub mod Hits
pub mod Chunks
pub mod Machine
