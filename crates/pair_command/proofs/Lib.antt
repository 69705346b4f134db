pub mod OneCar
pub mod Decided
pub mod Leaving
pub mod Complete
pub mod Lines
pub mod Sessions
