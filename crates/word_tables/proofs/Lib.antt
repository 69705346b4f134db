pub mod Held
pub mod Reading
pub mod Fitting
pub mod Sizes
pub use Rattle.fitting_parts.proofs.Few
pub use Rattle.fitting_parts.proofs.Fitted
pub use Rattle.document_sizes.proofs.Documents
pub use Rattle.document_sizes.proofs.Parts
pub use Rattle.tree_words.proofs.Held as TreeHeld
pub use Rattle.tree_words.proofs.Lists
