pub mod Steps
pub mod Sites
