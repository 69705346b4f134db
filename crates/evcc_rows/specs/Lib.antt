pub mod Carrying
pub mod Rights
pub mod Leading
