pub mod Reading
pub mod Lent
pub mod Written
pub mod Pens
