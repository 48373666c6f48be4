-- What doors answer in several numbers.
pub mod Doors
