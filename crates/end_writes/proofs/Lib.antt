-- Laws of the selections at the end of an element:
--   Deep      the first one that finishes, place by place
--   Staying   the hits of those that stay open
pub mod Deep
pub mod Staying
