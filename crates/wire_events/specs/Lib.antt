pub mod Seats
pub mod Boards
pub mod Told
pub mod Law
pub mod Lines
