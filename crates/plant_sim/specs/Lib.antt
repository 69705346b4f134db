pub mod Charger
pub mod Search
