pub mod Spelling
pub mod Joined
pub mod Classes
pub mod Cutting
pub mod Prefixes
pub mod Steps
pub mod Printed
