pub mod Consistency
pub mod Messages
pub mod Decided
