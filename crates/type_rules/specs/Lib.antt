pub mod Callees
pub mod Headers
pub mod Counted
