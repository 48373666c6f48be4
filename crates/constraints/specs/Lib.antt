-- The constraints in the definition store, in the order to read: the records of one, its parts by their places, sets of constraints and their number;
-- what the steps of a walk find; computed examples.
pub mod Constraints
pub mod Walks
pub mod Examples
