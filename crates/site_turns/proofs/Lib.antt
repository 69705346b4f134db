pub mod Heard
pub mod Counts
pub mod First
