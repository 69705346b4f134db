pub mod Header
pub mod Frames
pub mod Reading
pub mod Splits
pub mod Taking
