pub mod Walks
pub mod Hearings
pub mod Recordings
