-- Laws and theorems of these forms.
--   LentCalls  what is promised over a list of structs, from the library's promise
--   LentRuns   a refused call keeps all; a run over what is lent is a run of the library's calls
--   HandsOut   what is handed out at a door, by the test
--   DoorCalls  what is promised at the door of the record call, from the library's promise
--   DoorBuffers  the same of the run over a buffer
--   DoorRuns   a run through the doors is a run of the library's calls
--   Pieces     what a piece hands in, and what stays for the next
--   Inputs     `any-pieces`: however an input comes in pieces, its records are handed in
pub mod LentCalls
pub mod LentRuns
pub mod HandsOut
pub mod DoorCalls
pub mod DoorBuffers
pub mod DoorRuns
pub mod Pieces
pub mod Inputs
