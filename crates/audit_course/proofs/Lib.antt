mod Telling
mod Stepping
pub mod Shares
pub mod Causing
