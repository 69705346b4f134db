pub mod Views
pub mod Resting
