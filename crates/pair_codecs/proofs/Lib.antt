pub mod Entries
pub mod Payloads
pub mod Agreed
pub mod Fitting
