pub mod Views
pub mod Leading
pub mod Resting
pub mod Work
