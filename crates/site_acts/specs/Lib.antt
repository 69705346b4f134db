pub mod Deeds
pub mod Serving
