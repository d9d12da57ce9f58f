pub mod Calls
pub mod Outside
pub mod Ports
pub mod Status
pub mod Whole
