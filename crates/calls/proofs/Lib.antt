-- The theorems about runs of the calls, and a run over a buffer frame by frame.
--   Theorems   `stores-hold`, `run-is-tree`, `demand-3`, `equal-counts`, `reports-against`, `accepted-are`, `replies-are`, `no-ten`, `always-ten`,
--              `refused-keeps`; and that the calls over what is lent go on with a run: `called-run`, `ran-run`
--   Buffers    a run over a buffer, frame by frame
--   Splits     the frame at the front as code cuts it off
pub mod Theorems
pub mod Buffers
pub mod Splits
