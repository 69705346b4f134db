pub mod Schedules
pub mod Messages
pub mod Spellable
