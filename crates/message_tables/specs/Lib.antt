pub mod Values
pub mod Meanings
pub mod Codes
pub mod Frame
pub mod Spellable
pub mod Laws
pub use Rattle.word_tables.specs.Tables
