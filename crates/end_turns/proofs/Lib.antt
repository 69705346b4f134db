pub mod Turns
pub mod Finished
