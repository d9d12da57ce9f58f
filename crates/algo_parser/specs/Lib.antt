pub mod Units
pub mod Hearing
pub mod Laws
