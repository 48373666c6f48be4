-- What a call does on an ID and on an NS.
--   Defining   a call is `step`
--   Deciding   what stands against a definition, by numbers and lengths
--   Examples   computed
pub mod Defining
pub mod Deciding
pub mod Examples
