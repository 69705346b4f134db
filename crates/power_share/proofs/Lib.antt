pub mod Levels
pub mod Totals
