-- What holds of jobs under one allowance.
--   Under     what is served under an allowance the session alone takes; without an allowance it is `step`: `within_none`
--   Calls     one call: the allowance still fits, uses are the session's, other jobs stay: `closed-takes-none`
--   Lists     lists of calls: `jobs-run`, `jobs-fit`, `uses-are`, `jobs-cap-kept`, `jobs-total-kept`,
--             `jobs-refused-keeps`, `others-untouched`
--   Isolated  a job that is never met by 25 is answered as alone: `isolated`
--   Replies   10 is met in no list of calls, 25 never within the guarantee: `jobs-no-ten`, `jobs-within-guarantee`
pub mod Under
pub mod Calls
pub mod Lists
pub mod Isolated
pub mod Replies
