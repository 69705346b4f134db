pub mod Held
pub mod Lists
pub use Rattle.message_parts.proofs.Distinct
