pub mod BitLaws
pub mod OctetLaws
pub mod PlaceLaws
pub mod PlainLaws
pub mod Readers
pub mod ShortestLaws
pub mod PlainSteps
