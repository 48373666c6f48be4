-- The events that made the tuples.
--   Origins    an event for each tuple
--   Examples   computed, document 01's run among them
pub mod Origins
pub mod Examples
