pub mod Along
pub mod Shown
pub mod Parts
pub mod Seen
pub mod Sounds
pub mod Wholes
pub mod OneFullAnalysis
pub mod Preludes
