-- The bindings of prefixes in lent bytes, in the order to read: what bytes bind, where it stands in them, which records are a constraint's own, computed examples.
pub mod Bindings
pub mod Places
pub mod Own
pub mod Examples
