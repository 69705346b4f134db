pub mod Telling
pub mod Calls
pub mod Rooms
pub mod Knowing
