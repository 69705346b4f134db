pub mod Codes
pub mod Values
pub mod Frame
pub mod Setup
pub mod Power
pub mod Parameters
pub mod Words
