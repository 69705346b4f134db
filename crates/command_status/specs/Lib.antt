pub mod Statuses
pub mod FaultLines
pub mod Told
pub mod Completeness
