-- Laws of the pass of an ES:
--   Bits      a place more in a set of bits, and the places of two sets
--   Marks     a set that grows place by place: its members, and how many there are
--   Stands    one listed constraint, or one open scope, in a store that reads
--   Walked    the walk over the first 32 listed numbers, each with its place
--   Opening   place by place, which constraints open a scope
--   Sixes     what one listed number adds to the reports of kind 6
--   Telling   place by place, for which of them kind 6 is reported
--   Picking   place by place, which open scopes select the element
--   Opened    LAWS for callers: the scopes that open, and the selections of the element
pub mod Bits
pub mod Marks
pub mod Stands
pub mod Walked
pub mod Opening
pub mod Sixes
pub mod Telling
pub mod Picking
pub mod Opened
