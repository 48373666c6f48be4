-- The checker and the reader on the same texts: document 01's cases marked P, and texts on which the two part.
pub mod PCases
pub mod Examples
