pub mod Folds
pub mod Sending
