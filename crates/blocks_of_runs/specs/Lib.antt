pub mod Answers
pub mod BlockRuns
pub mod CutRuns
pub mod Stops
