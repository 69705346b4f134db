pub mod Calm
pub mod InTime
