pub mod Lasts
pub mod Ending
pub mod Turns
