pub mod Basics
pub mod Charging
pub mod Offering
pub mod Scripts
