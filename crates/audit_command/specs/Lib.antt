pub mod Lines
pub mod Audits
pub mod Leaving
pub mod Own
