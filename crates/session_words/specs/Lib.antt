pub mod Amounts
pub mod Causes
pub mod Codes
pub mod EvseTexts
pub mod Modes
pub mod Plans
pub mod Sessions
