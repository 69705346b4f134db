mod Pasts
mod Verdicts
mod Decided
mod Leaving
mod Complete
pub mod Own
