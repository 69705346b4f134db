pub mod Exchanges
pub mod Meeting
pub mod Left
pub mod Laws
pub mod Timed
pub mod Orders
