-- Laws of the hits of attributes, in the order to read:
--   Hits         selections and hits, as lists
--   Rows         one attribute: a number of hits for each selection
--   Attributes   attribute after attribute
--   Fields       field after field, by the paths of the constraint
--   Scopes       scope after scope
--   Starts       LAW for callers: this is what the start of an element gives
pub mod Hits
pub mod Rows
pub mod Attributes
pub mod Fields
pub mod Scopes
pub mod Starts
