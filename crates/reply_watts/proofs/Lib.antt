pub mod Added
pub mod Kept
pub mod Elements
pub mod IsoTrees
pub mod DinTrees
pub mod IsoBodies
pub mod DinBodies
pub mod Payloads
