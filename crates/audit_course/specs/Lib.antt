pub mod Values
pub mod Changes
pub mod Coming
pub mod Asking
