-- Laws of a constraint's paths:
--   Short    the texts of an ID that parses are short enough for the area
--   Asked    path by path
--   Stands   the same of the constraint that a number stands for
pub mod Short
pub mod Asked
pub mod Stands
