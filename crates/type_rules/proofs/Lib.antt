pub mod Lookup
pub mod Counting
