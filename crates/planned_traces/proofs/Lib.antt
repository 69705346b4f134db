pub mod Texts
pub mod OnePlan
mod Readings
