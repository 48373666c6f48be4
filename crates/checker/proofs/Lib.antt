-- `Meets` has the theorems: `pass-is-grammar`, `pass-is-taken`, `unrefused-is-taken`, `zero-is-grammar`. The others are the laws of the code.
pub mod Decoding
pub mod Refusals
pub mod Meets
