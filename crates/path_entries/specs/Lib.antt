-- A read path in bytes.
pub mod Entries
pub mod Rooms
pub mod Examples
