pub mod Logged
pub mod Files
