pub mod TwoPosts
pub mod Playing
pub mod OneCharge
pub mod LaterSession
