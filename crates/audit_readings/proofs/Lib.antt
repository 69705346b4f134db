pub mod Once
pub mod Judging
pub mod Saying
