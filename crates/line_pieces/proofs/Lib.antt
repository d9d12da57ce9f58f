pub mod Places
pub mod Firsts
pub mod OneListOfPieces
pub mod OneListOfSpans
