pub mod Judging
pub mod Opening
pub mod Reading
pub mod Plain
pub mod Settling
pub mod Reasons
