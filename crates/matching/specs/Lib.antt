-- What a parsed path matches:
--   Matched    the definitions that the public functions are held to
--   Walks      what the walks over names and entries find
--   Examples   what the definitions come to, computed
pub mod Matched
pub mod Walks
pub mod Examples
