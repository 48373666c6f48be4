-- One spelling for a path: its text, the same text made from the path's own bytes, what the writer answers, and all
-- of these computed.
pub mod Canonical
pub mod Respelling
pub mod Writing
pub mod Examples
