-- Theorems about lists of calls of `step`, in the order to read:
--   Trace        the session of the accepted records, and the streaming machine
--   Calls        call by call: what holds after a run
--   Refused      `refused-keeps`, `no-ten`, `always-ten`
--   Claims       `run-decodes`, `stores-hold`, `run-is-tree`, `record-for-record`, DEMAND 3: `demand-3`, `equal-counts`;
--                what refusals look at: `state-of-tree`, `used-are`
--   Pieces       what each piece that `decode` reads gives
--   Replies      every reply is the one that the tree gives, and so are the accepted records: `replies-are`, `accepted-are`
--   WellFormed   of every world that decodes: `well-formed`, `step-decodes`, `taken-decodes`
--   TwoPass      what code needs at an EE: `two-passes`, `finish-last`
--   SameLengths  two runs over stores and areas of the same lengths: `same-lengths`, `same-replies`
--   SmallerArea  a run and the former session: `smaller-area`, `smaller-replies`
pub mod Trace
pub mod Calls
pub mod Refused
pub mod Claims
pub mod Pieces
pub mod Replies
pub mod WellFormed
pub mod TwoPass
pub mod SameLengths
pub mod SmallerArea
