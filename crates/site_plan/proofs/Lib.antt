mod Defaults
pub mod Offers
