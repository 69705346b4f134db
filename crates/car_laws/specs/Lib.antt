pub mod Contactor
pub mod Opening
pub mod Silence
pub mod Readings
pub mod Closing
pub mod Determined
