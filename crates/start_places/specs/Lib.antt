-- The pure pass of an ES, in the order to read: sets of places and what is asked of the listed constraints and the open
-- scopes; what is asked of one of them; computed examples.
pub mod StartPass
pub mod Turns
pub mod Examples
