pub mod Waits
pub mod Closer
