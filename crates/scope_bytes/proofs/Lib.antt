-- Laws of the open scopes as bytes:
--   ScopeBytes   widths; loaded and stored back, stored and loaded back; what stands behind
--   Turns        one more record loaded or stored
pub mod ScopeBytes
pub mod Turns
