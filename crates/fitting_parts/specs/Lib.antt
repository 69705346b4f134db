pub mod Fitting
pub mod Counted
