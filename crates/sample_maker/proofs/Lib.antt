mod Ranges
mod Behind
mod Lengths
mod Counts
mod Spans
mod Summarised
mod Told
pub mod EndsOfSamples
