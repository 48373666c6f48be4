pub mod Chars
pub mod Fronts
