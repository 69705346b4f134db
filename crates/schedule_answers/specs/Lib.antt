pub mod Answers
pub mod Choosing
pub mod Requests
pub mod Schedules
pub mod Usable
