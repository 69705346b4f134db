pub mod Steps
pub mod Agreeing
pub mod Closings
pub mod Same
