pub mod Sample
pub mod Summaries
pub mod SampleRuns
