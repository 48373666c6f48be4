-- A record by places in its bytes, in the order to read: what the places say, the tests one by one, computed examples.
pub mod Places
pub mod Checks
pub mod Examples
