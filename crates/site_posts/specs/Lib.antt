pub mod Work
pub mod Sound
pub mod Places
pub mod Filling
