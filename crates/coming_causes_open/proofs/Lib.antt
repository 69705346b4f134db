pub mod Ending
pub mod Opens
pub mod Spoken
pub mod Worded
pub mod Wording
pub mod Deadlines
pub mod Shutting
pub mod Causing
