pub mod Readings
pub mod Lines
