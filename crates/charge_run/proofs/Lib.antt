pub mod Answered
pub mod WordLists
pub mod Complete
