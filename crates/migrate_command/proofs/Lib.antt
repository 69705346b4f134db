pub mod Refusals
pub mod Printed
pub mod Readings
pub mod Texts
pub mod Decided
pub mod Complete
