pub mod Numbers
pub mod Posts
