-- What a call does on an EE. Its promise, and the counts and numbers after it, are in event_answers.
--   Writing   the stores, the cells and the numbers that the end of an element leaves
pub mod Writing
