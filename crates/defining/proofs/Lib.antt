-- Laws of definitions, in the order to read:
--   Deciding   what each test of the code says
--   Judging    the verdict of the used bytes
--   Taking     the world after a record that is taken
--   Stepping   that this is `step`
pub mod Deciding
pub mod Judging
pub mod Taking
pub mod Stepping
