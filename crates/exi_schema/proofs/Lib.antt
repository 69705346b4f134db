pub mod Walks
pub mod Finding
pub mod Widths
pub mod Conditions
pub mod Fitting
pub mod Roots
pub mod TablesTell
pub mod OneSchema
