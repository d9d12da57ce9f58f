pub mod BuiltIns
pub mod Variables
pub mod Callees
