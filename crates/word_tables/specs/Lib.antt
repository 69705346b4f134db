pub mod Tables
pub mod Fitting
pub mod Examples
pub use Rattle.fitting_parts.specs.Counted
pub use Rattle.fitting_parts.specs.Fitting as PartsFitting
pub use Rattle.document_sizes.specs.Sizes
pub use Rattle.tree_words.specs.Named
