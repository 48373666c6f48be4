-- What the code's answers about jobs stand for.
--   Answers   a job, what is left of T, what a call meets, whom the dispatcher names; and what the calls promise
--   Examples  computed
pub mod Answers
pub mod Examples
