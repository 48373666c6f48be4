-- The definition store, in the order to read: what its definitions come to and what stands against one more, the tally
-- record by record, computed examples.
pub mod Store
pub mod Counting
pub mod Examples
