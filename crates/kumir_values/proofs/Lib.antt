pub mod Division
pub mod Powers
pub mod Places
pub mod Maps
