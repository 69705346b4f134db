mod Plans
mod Between
pub mod Generated
