pub mod Ports
pub mod Lines
pub mod Driven
pub mod Refused
