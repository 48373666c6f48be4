-- The checker's answer, what its parts promise each other, and computed answers.
pub mod Answers
pub mod Parts
pub mod Examples
