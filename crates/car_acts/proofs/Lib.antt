pub mod Sound
pub mod Named
pub mod Next
pub mod Runs
