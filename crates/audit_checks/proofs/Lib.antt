pub mod Checked
pub mod Posts
mod Due
