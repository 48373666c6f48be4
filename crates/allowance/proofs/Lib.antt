-- What the definitions of this crate keep.
--   Jobs   one job changes: the sums, and what stays
--   Laws   what is admitted stays within cap and T, and a guarantee is kept; set-up and closing fit
--   Fair   a waiting job is served within 8 records
pub mod Jobs
pub mod Laws
pub mod Fair
