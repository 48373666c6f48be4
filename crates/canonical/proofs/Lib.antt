-- The canonical text: it is read as the path that it was made of (`Again`), it is the path's own text respelled
-- (`Respelling`), it is within the limits (`Weights`), and written again it stays (`Spelling`).
pub mod Bare
pub mod Again
pub mod Respelling
pub mod Weights
pub mod Spelling
