pub mod Full
pub mod Stops
pub mod Seen
pub mod Answers
pub mod Laws
