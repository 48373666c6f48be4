-- More computed examples of refusals: because of the session, and 10. Those that refuse edits of the definitions are in session_spec.
pub mod Refusals
pub mod Unfit
