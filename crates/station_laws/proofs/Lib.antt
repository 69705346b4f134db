pub mod Decided
pub mod Contactors
pub mod PostRuns
pub mod Told
