pub mod Message
pub mod Documents
pub use Rattle.iso_elements.specs.declared.brief.BriefElement
