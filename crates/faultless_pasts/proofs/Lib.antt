pub mod Opening
pub mod Checks
pub mod Told
