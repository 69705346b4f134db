pub mod Records
pub mod Sayings
