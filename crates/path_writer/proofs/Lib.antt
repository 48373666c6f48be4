-- Laws of path_writer: bytes added behind a place (`Adding`), the parts and the alternatives so written (`Parts`,
-- `Alternatives`), and what is answered (`Answers`).
pub mod Adding
pub mod Parts
pub mod Alternatives
pub mod Answers
pub mod Doors
