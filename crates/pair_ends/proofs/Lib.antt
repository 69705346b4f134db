pub mod Alone
pub mod Driven
pub mod Sides
