-- Laws of the hits of the element that ends:
--   Belongs    whether some selection is of a scope: selection by selection
--   Fields     one field: it reads or not, and then its row
--   Matrix     the rows of a scope, field by field
--   Scopes     those of the constraint that a number stands for
--   Sessions   scope by scope, for the selections of a session
pub mod Belongs
pub mod Fields
pub mod Matrix
pub mod Scopes
pub mod Sessions
