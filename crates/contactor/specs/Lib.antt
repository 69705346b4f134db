pub mod Calls
pub mod Law
pub mod Rights
pub mod Standing
