pub mod Codecs
pub mod Readings
pub mod Watts
