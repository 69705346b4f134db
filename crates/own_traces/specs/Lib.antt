pub use Rattle.words_by_bytes.specs.Words
pub use Rattle.next_words.specs.Next
pub use Rattle.opens_have_reasons.specs.Reasons
pub mod Own
pub mod Owning
pub mod Weighing
pub mod Leaving
