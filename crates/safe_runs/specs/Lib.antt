pub mod Started
pub mod Closing
pub mod Opening
