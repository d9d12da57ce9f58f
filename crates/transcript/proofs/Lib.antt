pub mod Again
pub mod Heads
pub mod Escapes
pub mod Texts
pub mod OneLine
pub mod OneReading
