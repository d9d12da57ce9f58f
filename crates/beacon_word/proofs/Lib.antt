mod Moves
pub mod Numbers
