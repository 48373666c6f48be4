-- Laws of a call on an ES, in the order to read:
--   Placing    what counts alone tell
--   Places     the place of each open scope, and a name written behind the open ones and put back
--   Planning   the new scopes, selections and reports of a session, by the sets of places that were found
--   Considered what each answer of the planning says
--   Writing    the world after the plan is carried out
--   Taking     a call is `step`
pub mod Placing
pub mod Places
pub mod Planning
pub mod Considered
pub mod Writing
pub mod Taking
