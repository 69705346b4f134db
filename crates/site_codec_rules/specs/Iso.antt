-- ISO 15118-2:2014, section 8.3 (message, header and body): the word that a payload spells, by the tree that it spells, and the encoding of
-- a reply.
use Rattle.std.specs.Prelude.{ℕ, List, Option, Some, None}
use Rattle.exi_documents.specs.declared.refusal.RefusalCause.{RefusalCause}
use Rattle.document_laws.specs.Laws.{AreBytes}
use Rattle.session_words.specs.declared.word.Reply.{Reply}
use Rattle.session_words.specs.declared.word.Word.{Word}
use Rattle.session_words.specs.declared.word.Word.TheVariants as word
use Rattle.iso_codec.specs.Documents.{IsIsoRefused}
use Rattle.iso_word_laws.specs.Spellable.{CanSpell}
use Rattle.iso_table_laws.specs.Laws as payloads

-- no message
pub record IsNone (payload : List ℕ) : Type 0 where
  pub why : RefusalCause
  pub bit : ℕ
  pub refused : IsIsoRefused payload why bit

abbrev pub Reads : List ℕ → Option Word → Type 0
Reads payload None = IsNone payload
Reads payload (Some word) = payloads.Reads payload word

-- a reply that the declarations can spell, and what is written for it
pub record Encodes (reply : Reply) (payload : List ℕ) : Type 0 where
  pub can : CanSpell (word.Reply reply)
  pub bytes : AreBytes payload
  pub written : payloads.IsWrittenFor (word.Reply reply) payload
