-- Laws of the open scopes and of the counts:
--   Places     the first places of a list of sixteen: how many, which, one more
--   Fitting    scopes one after the other: each fits and follows the one before
--   Counting   the packed number and back; the numbers and lengths of a world
pub mod Places
pub mod Fitting
pub mod Counting
