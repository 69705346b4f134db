pub mod Heard
pub mod Finished
