pub mod Chains
pub mod Cuts
pub mod Parts
pub mod Posts
pub mod Stops
