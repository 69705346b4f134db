pub mod Bytes
pub mod Taken
pub mod Ready
pub mod Hearing
pub mod Reading
pub mod Doing
pub mod Served
