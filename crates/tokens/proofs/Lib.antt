pub mod Runs
pub mod Scanning
pub mod Firsts
