-- More computed examples of what a session does: demand 3, reports, prefixes. Those that refuse edits of its definitions are in session_spec, those of refusals in
-- refusal_examples.
pub mod Demand
pub mod Kinds
pub mod Prefixes
