-- Laws of what is written for sets of places:
--   Sets       marked members: of lists one behind the other, with one more, and of lists as long
--   Pushes     scopes pushed one after the other, and a turn of the loop that does it
--   Filling    records of one width one behind the other, and the turns of the loops that write them
pub mod Sets
pub mod Pushes
pub mod Filling
