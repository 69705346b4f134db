pub mod Ending
pub mod SoFar
