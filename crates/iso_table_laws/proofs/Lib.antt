pub mod Back
pub mod Words
pub mod Fits
pub mod Payloads
