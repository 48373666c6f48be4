-- Laws of the open selections:
--   Zeros     bytes that are all 0, seen through one `or` of them
--   Exact     one cell, test by test
--   Written   a selection is written exactly if each of its four cells is
--   Order     selections one after the other: each fits and comes behind the one before
--   Decoded   THE LAW: the selections read exactly if the session definition decodes them
pub mod Zeros
pub mod Exact
pub mod Written
pub mod Order
pub mod Decoded
