pub mod Shapes
pub mod Fits
pub mod Written
pub mod Encoded
pub mod OneMessage
pub mod Short
