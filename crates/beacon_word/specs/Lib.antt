pub mod Beacon
pub mod Ends
pub mod Rising
