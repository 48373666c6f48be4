-- That the code counts and reads totals as it promises, and that what it counts is what a record brings.
--   Raising    one number after another; each turn of the loops
--   Answering  the branches of the reading
--   Sums       numbers raised one by one are the totals grown
--   Taken      a record that was taken: `taken-grows`
pub mod Raising
pub mod Answering
pub mod Sums
pub mod Taken
