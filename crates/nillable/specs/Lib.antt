-- A document in which no element is declared nillable any more, and which constraints that makes no difference to.
--   Plain      simple byte 2 becomes 1: of an end, in a tree, in what happens there
--   Examples   computed
pub mod Plain
pub mod Examples
