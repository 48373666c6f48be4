-- Laws of path_steps.
pub mod Colons
pub mod Tests
pub mod Steps
