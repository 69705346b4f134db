pub mod Replays
pub mod Telling
pub mod Standing
