pub mod Decided
pub mod Itself
pub mod Leaving
pub mod Complete
