pub mod Blank
pub mod Bytes
pub mod Choices
pub mod Holding
pub mod Lists
pub mod Offering
pub mod OneOffer
