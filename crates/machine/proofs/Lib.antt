-- That the streaming machine computes the tree definition, and demand 3, in the order to read.
--   Cells      a cell that takes hits one by one                 Numbered   scope numbers are 1, 2, 3 ..: `scope-numbers`
--   StateOf    the machine's state, read off the tree            Distinct   how many different tuples
--   Grow       what an event adds comes at the end               Count      demand 3 over a list of happenings
--   Simulate   step by step the same: `streamed`                 Demand     demand 3 of a whole run: `demand`, `demand-finished`
--   Opened     what is open in the tree is what the machine keeps   Longer   what has been put out stays
--   Routes     where no two alternatives meet, the hits are as each of them gives: `hits-as-before`
pub mod Cells
pub mod StateOf
pub mod Grow
pub mod Simulate
pub mod Numbered
pub mod Distinct
pub mod Count
pub mod Demand
pub mod Opened
pub mod Longer
pub mod Routes
