pub mod Contactors
pub mod PostRuns
pub mod Within
