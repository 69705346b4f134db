pub mod Chargers
pub mod Playing
pub mod Whole
pub mod Draws
pub mod Readings
pub mod Matching
