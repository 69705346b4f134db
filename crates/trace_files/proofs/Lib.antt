pub mod Limits
pub mod OneLine
