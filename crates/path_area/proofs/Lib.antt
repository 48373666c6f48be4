-- Laws of the parsed-path area as scratch.
pub mod Scratch
