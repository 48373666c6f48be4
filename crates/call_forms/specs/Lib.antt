-- The forms in which calls are handed a session and records.
--   Lent      numbers as one struct, open scopes as a list of structs: what the record call promises of them
--   LentRuns  such calls, one after another
--   Doors     five numbers, open scopes as bytes: what the record call and the run over a buffer promise at their doors
--   DoorRuns  calls through the doors, one after another
--   Input     an input that comes in pieces: the records that each hands in
--   Examples  computed
pub mod Lent
pub mod LentRuns
pub mod Doors
pub mod DoorRuns
pub mod Input
pub mod Examples
