pub mod Limits
pub mod Discovery
