pub mod Judging
pub mod Requests
