-- For unique and keyref 2 acts as 1.
--   TwoIsOne   over whole trees, and over lists of events
pub mod TwoIsOne
