pub mod Files
pub mod Talking
pub mod Printing
pub mod Leaving
pub mod Generating
