pub mod TwoPosts
pub mod OneCharge
pub mod LaterSession
