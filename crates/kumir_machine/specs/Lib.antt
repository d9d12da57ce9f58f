pub mod Course
pub mod ActiveRuns
pub mod Phases
pub mod Laws
