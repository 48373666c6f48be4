-- What a call on an ES, an EE and an FI promises, and what it decides and leaves on the way.
--   InPlace         what stands against an event by the counts
--   Starting        a call on an ES is `step`
--   StartRows       the rows of refusals of an ES, by what is tested when
--   StartSteps      what is planned, written and left for an ES, of a session that the world decodes to
--   StartExamples   computed
--   Ending          a call on an EE is `step`; the counts and numbers after it
--   EndExamples     computed
--   Finishing       a call on an FI is `step`
--   Fives           the reports of kind 5, by the records that stand in the tuple store
--   FinishExamples  computed
pub mod InPlace
pub mod Starting
pub mod StartRows
pub mod StartSteps
pub mod StartExamples
pub mod Ending
pub mod EndExamples
pub mod Finishing
pub mod Fives
pub mod FinishExamples
