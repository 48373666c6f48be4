pub mod NCName
