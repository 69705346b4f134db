pub mod Limits
pub mod Schedules
pub mod Discovery
pub mod Charging
pub mod Delivery
