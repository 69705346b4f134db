pub mod Chains
pub mod Documents
mod Unknown
