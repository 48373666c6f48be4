-- What the proofs of this crate share.
--   Values     the promise of a session that is lent from values
pub mod Values
