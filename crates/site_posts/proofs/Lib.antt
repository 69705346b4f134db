pub mod Quiet
pub mod Work
pub mod Sound
pub mod Reports
pub mod Levels
pub mod Words
