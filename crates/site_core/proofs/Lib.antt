pub mod Plans
pub mod Embedded
pub mod Served
