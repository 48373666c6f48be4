-- Laws of a session on bytes, in the order to read.
-- Of the pieces:
--   Tests            options, tests and rows of refusals taken apart
--   Stores           TU, RP and definition records are read again, and behind what a store holds
--   Replays          definitions are taken record by record: the first, and then the rest
--   Parts            ONE LAW for places of one width: written, appended, given up
--   Areas            open names, cells, open selections, the packed number
--   View             the tuple view is a part of the tuple store
-- What holds of every session that decodes, and is kept:
--   Constraints      a constraint is what its number stands for
--   Outs             scopes, happenings, what is put out
--   OpenScopes       numbers rise, depths do not fall; what an ES opens, what an EE closes
--   OpenSelections   hits and cells; the order of selections
--   States           the whole state: a start and an end keep it
--   Limits           what the refusals because of the input leave
-- Between bytes and session:
--   Holds            what holds, and that then the world decodes to the session
--   Patched          what is written for a record that is taken keeps it
--   Follows          a record that no refusal meets is one of those
pub mod Tests
pub mod Stores
pub mod Replays
pub mod Parts
pub mod Areas
pub mod View
pub mod Constraints
pub mod Outs
pub mod OpenScopes
pub mod OpenSelections
pub mod States
pub mod Limits
pub mod Holds
pub mod Patched
pub mod Follows
