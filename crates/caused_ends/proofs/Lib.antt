pub mod Rows
pub mod Hands
pub mod Resting
pub mod Causing
pub mod WrongEnds
