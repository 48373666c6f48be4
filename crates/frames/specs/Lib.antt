-- The records of bytes one behind the other: what is split off at the front, and computed examples.
pub mod Frames
pub mod Examples
