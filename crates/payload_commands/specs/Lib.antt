pub mod Detailing
pub mod PickFates
pub mod Picking
pub mod Refusals
pub mod ScheduleFates
pub mod Scheduling
