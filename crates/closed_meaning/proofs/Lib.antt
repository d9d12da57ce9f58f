pub mod Prefixes
pub mod Plays
pub mod Known
