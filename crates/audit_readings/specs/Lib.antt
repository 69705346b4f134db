pub mod Readings
pub mod Saying
