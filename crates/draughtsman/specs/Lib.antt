pub mod Place
pub mod Pen
pub mod Laws
