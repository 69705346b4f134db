pub mod Preparing
pub mod Checking
pub mod Starting
pub mod Steps
pub mod Mandated
pub mod Telling
mod Currents
