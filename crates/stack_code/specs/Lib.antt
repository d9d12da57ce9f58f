pub mod CodeState
pub mod Instructions
pub mod CodeRuns
pub mod Operands
pub mod Validity
pub mod Checking
pub mod Computed
