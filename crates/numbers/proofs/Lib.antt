pub mod RoundTrip
pub mod Bytes
pub mod Copies
