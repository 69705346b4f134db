pub mod TreeText
pub mod EventText
pub mod Printing
pub mod Consistent
pub mod Scans
