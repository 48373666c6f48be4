-- The parsed-path area as scratch: the promise, and computed examples.
pub mod Scratch
pub mod Examples
