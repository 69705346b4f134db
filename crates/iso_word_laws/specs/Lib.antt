pub mod Posts
pub use Rattle.iso_word_messages.specs.Spellable
