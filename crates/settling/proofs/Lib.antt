-- Laws of finished selections, in the order to read:
--   Fed         the bytes after the hits are those of the fed selection
--   Answers     the code's answers, case by case and test by test
--   Judged      what an answer says is added is what the selection adds
--   Homes       the scope and the constraint of a selection
--   One         one selection of the area: what it comes to, and the size of its TU
--   Turns       all that finish, one after the other
--   Writes      one TU more, one report more
--   Appending   those of all, one behind the other
pub mod Fed
pub mod Answers
pub mod Judged
pub mod Homes
pub mod One
pub mod Turns
pub mod Writes
pub mod Appending
