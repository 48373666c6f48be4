-- Laws of a call on an FI, in the order to read:
--   Refers    which constraints answer which, by the definition store
--   Walking   the records of the tuple store one after the other: those that are counted, and the reports that are written
--   Sessions  the reports are those of the session that the stores decode to
--   Taking    a call is `step`
pub mod Refers
pub mod Walking
pub mod Sessions
pub mod Taking
