pub mod Steps
pub mod Due
