pub mod Dialect
pub mod Languages
pub mod Scanning
pub mod Following
pub mod Awaited
