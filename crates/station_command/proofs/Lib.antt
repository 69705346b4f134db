pub mod Printed
pub mod Begun
pub mod Complete
