pub mod Bounds
pub mod Limits
pub mod Lines
pub mod Offers
pub mod Plans
pub mod Profiles
pub mod Steps
pub mod Turning
