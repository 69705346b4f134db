pub mod Checks
pub mod Around
pub mod Due
