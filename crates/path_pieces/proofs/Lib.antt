-- Laws of path_pieces.
pub mod Pieces
pub mod Parts
