pub mod LineFeeds
pub mod Steps
pub mod Fronts
