pub mod Requests
pub mod Charger
pub mod Conforming
pub mod Laws
