pub mod Blocks
pub mod Led
pub mod Prefixes
pub mod Acts
pub mod Steps
pub mod Reached
pub mod Preludes
pub mod OneEnding
