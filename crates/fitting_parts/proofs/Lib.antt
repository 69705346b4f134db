pub mod Fitted
pub mod Few
