pub mod Print
pub mod Reading
pub mod Entries
