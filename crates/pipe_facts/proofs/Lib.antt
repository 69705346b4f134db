pub mod Moments
pub mod Facts
pub mod Calm
pub mod InTime
