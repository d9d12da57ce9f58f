pub mod Levels
pub mod Listed
pub mod Readings
pub mod Subcommands
