pub mod Posts
pub use Rattle.din_word_messages.specs.Spellable
