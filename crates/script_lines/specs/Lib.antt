pub mod Lines
pub mod Words
pub mod Requests
pub mod Begun
pub mod Reader
pub mod Answer
