pub mod Numbers
pub mod Lists
pub mod Schedules
pub mod Frames
pub mod Payloads
