pub mod Tallies
pub mod Ends
pub mod Places
