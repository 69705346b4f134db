pub mod Messages
pub mod Negotiation
pub mod Winning
pub mod Documents
pub mod Printing
pub mod Scanning
