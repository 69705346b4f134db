pub mod Agreeing
pub mod Beginning
