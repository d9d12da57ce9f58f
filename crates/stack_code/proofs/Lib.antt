pub mod Runs
pub mod Traces
pub mod Units
pub mod KindsOf
pub mod Each
pub mod PlacesFit
pub mod Values
pub mod Visits
