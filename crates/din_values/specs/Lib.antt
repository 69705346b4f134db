pub mod Codes
pub mod Modes
pub mod States
pub mod Physical
pub mod Statuses
