pub mod Values
pub mod Arithmetic
pub mod Bounds
pub mod Tables
