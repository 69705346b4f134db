pub mod Stages
pub mod Requests
pub mod Replies
pub mod Moves
pub mod Deadlines
pub mod Searching
