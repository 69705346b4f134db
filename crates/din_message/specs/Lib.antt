pub mod Message
pub mod Documents
