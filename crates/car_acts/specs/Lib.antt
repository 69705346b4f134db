pub mod Reporting
pub mod Deeds
pub mod Sound
pub mod Driving
pub mod Made
