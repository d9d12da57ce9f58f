pub mod Lengths
pub mod Hears
pub mod Gathers
pub mod Makes
pub mod FirstForms
pub mod Sounds
pub mod SoundReads
pub mod OneReading
