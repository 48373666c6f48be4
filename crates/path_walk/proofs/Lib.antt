-- Laws of path_walk.
pub mod Stepping
pub mod Begins
pub mod Pieces
pub mod Whole
