-- Many jobs under one allowance.
--   Within    a session's call under an allowance: 25 directly after 15, a closed job's 11 in 11's place
--   Jobs      the record call for a job, the close call, and lists of both
--   Examples  computed
pub mod Within
pub mod Jobs
pub mod Examples
