pub mod Applied
pub mod Fronts
pub mod Words
