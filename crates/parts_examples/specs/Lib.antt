pub mod Declarations
pub mod Parts
