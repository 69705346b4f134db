pub mod Carry
pub mod Knowing
pub mod Written
pub mod Orders
pub mod Faults
pub mod Bounds
