-- What finished selections make, in the order to read:
--   Finished   one selection: its bytes after the element's hits, what its outcome comes to, and what that adds
--   Ending     what the bytes hold when an element ends, and what is answered, remembered and written then
--   Examples   computed
pub mod Finished
pub mod Ending
pub mod Examples
