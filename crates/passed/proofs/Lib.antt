-- What passes is read (`Passed`), and the laws on the way to it, in order.
pub mod Spelling
pub mod Cut
pub mod Names
pub mod Tests
pub mod Parts
pub mod Passed
pub mod Limits
