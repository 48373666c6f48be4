-- Laws that the tuple store and the report store share; and those of a TU, which crates above read (`Tus`).
pub mod Masks
pub mod Walks
pub mod Sizes
pub mod Tus
pub mod Appends
