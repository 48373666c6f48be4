-- Laws of the report store.
pub mod Reading
pub mod Walking
pub mod Writing
pub mod Sessions
