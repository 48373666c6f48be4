-- Laws of entries: what is written for a read path is read back.
pub mod Back
