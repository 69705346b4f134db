pub mod Cuts
pub mod Digits
pub mod Pens
pub mod Lines
pub mod Splits
