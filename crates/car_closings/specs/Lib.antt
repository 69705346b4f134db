pub mod Reading
pub mod Closing
