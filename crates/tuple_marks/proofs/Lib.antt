pub mod Marks
pub mod Walking
pub mod Growing
