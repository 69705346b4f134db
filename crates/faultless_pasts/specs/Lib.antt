pub mod Faultless
pub mod Laws
