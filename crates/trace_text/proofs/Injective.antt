-- No two entries have the same words.
pub use Rattle.trace_text.proofs.Spelling.{words_same}
