pub mod FileTexts
pub mod Plans
