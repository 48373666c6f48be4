-- Laws of the record walk.
pub mod Reading
pub mod Members
pub mod Paths
pub mod Marks
pub mod Pairs
pub mod Bodies
pub mod Judging
pub mod Framing
