pub mod Back
pub mod Typed
pub mod Posts
