-- What a call is lent and what it answers, as the code has them.
--   Worlds    the world of numbers and scopes by value, stores and areas as bytes
--   Replies   the reply that each case of the code's answer is, and what a refusal leaves
--   PathArea  what holds of the parsed-path area
--   Examples  the parts of a world and the numbers of replies, computed
pub mod Worlds
pub mod Replies
pub mod PathArea
pub mod Examples
