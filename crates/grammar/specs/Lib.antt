-- The paths of XML Schema 1.0 Part 1, 3.11.6, as the standard's productions. Definitions only, in the order to read them.
pub mod Tokens
pub mod Paths
