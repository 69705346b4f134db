pub mod Numbers
pub mod Histories
pub mod Chargers
pub mod Turns
pub mod Runs
pub mod Counts
pub mod Pasts
pub mod Matched
