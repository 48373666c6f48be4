-- What a session does, on bytes. In the order to read:
--   Definitions   ID and NS one after another; what a constraint number stands for
--   Layout        TU and RP, open names, open scopes, open selections, the packed number
--   Session       the world that is lent, what it decodes to, the refusals, STEP, set-up
--   Runs          lists of calls: the accepted records, their tree, the calls on the tree
--   Former        the session that asked for a longer path area, and when two sessions leave the same
pub mod Definitions
pub mod Layout
pub mod Session
pub mod Runs
pub mod Former
-- computed runs and refusals, and what they share
pub mod Computed
pub mod Examples
pub mod Clauses
