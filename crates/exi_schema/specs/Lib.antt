pub mod Plain
pub mod Offers
pub mod Schemas
pub mod Steps
pub mod Counts
pub mod Told
pub mod Sequences
