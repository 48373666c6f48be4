-- The selections at the end of an element:
--   Staying    which finish, and the area after the hits of those that stay open
--   Examples   computed
pub mod Staying
pub mod Examples
