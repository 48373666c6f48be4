-- Well-formed sessions.
--   Parts      what areas and output stores hold, once the definitions are read
--   Examples   which worlds decode, computed
pub mod Parts
pub mod Examples
