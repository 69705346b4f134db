pub mod Widths
pub mod Parts
pub mod Places
pub mod Hits
pub mod Announced
pub mod Values
pub mod Shortened
