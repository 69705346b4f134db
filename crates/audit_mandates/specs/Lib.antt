pub mod Preparing
pub mod Checking
pub mod Starting
pub mod Values
pub mod Laws
