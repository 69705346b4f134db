pub mod Codes
pub mod Values
pub mod Documents
pub mod Parts
