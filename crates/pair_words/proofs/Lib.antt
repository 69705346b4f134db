pub mod Requests
pub mod Accepted
pub mod Rows
pub mod Charging
pub mod Exchanges
pub mod Sessions
pub mod Timed
pub mod Orders
