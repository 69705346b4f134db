-- Own: what payloads of a dialect mean as words, by the tree that they spell, and the laws of it.
use Rattle.std.specs.Prelude.{◌≡◌, ◌≤◌, ℕ, List, length, Option, Some}
use Rattle.exi_schema.specs.Schemas.{PlainSchema}
use Rattle.exi_schema.specs.declared.tables.RootOf.{RootOf}
use Rattle.exi_documents.specs.Documents.{IsDocument, IsEncoding}
use Rattle.exi_documents.specs.Trees.{Tree}
use Rattle.kind_laws.specs.Laws.{HasEncoding}
use Rattle.message_parts.specs.Contents.{Inside, root_of}
use Rattle.message_parts.specs.Documents.{PassesBytes}
use Rattle.session_words.specs.declared.word.Ask.{Ask}
use Rattle.session_words.specs.declared.word.Ask.TheVariants as ask
use Rattle.session_words.specs.declared.word.Tell.{Tell}
use Rattle.session_words.specs.declared.word.Tell.TheVariants as tell
use Rattle.session_words.specs.declared.word.Word.{Word}
use Rattle.session_words.specs.declared.word.Word.TheVariants as word
use Rattle.message_tables.specs.Frame.{Frame, Message, tree_word_by}

-- a payload reads as a word
pub record Reads (schema : PlainSchema) (word_of : Tree → Word) (payload : List ℕ) (w : Word) : Type 0 where
  pub tree : Tree
  pub document : IsDocument schema tree payload
  pub word_is : w ≡ word_of tree

-- a payload is what is written for a word, under a root of this name
pub record IsWrittenFor (schema : PlainSchema) (root : ℕ) (in_word : Word → Option Inside) (w : Word) (payload : List ℕ) : Type 0 where
  pub own : Inside
  pub own_is : in_word w ≡ Some own
  pub encoding : IsEncoding schema (root_of root own) payload

-- ---- so many bytes at most: a profile has up to 24 entries, and three schedules up to 128 each. Others have few

abbrev pub asked_bytes : ℕ → Ask → ℕ
asked_bytes few (ask.PowerDelivery _ _ _) = 1024
asked_bytes few _ = few

abbrev pub told_bytes : ℕ → Tell → ℕ
told_bytes few (tell.ChargeParameters _ _ _) = 20480
told_bytes few _ = few

abbrev pub most_bytes : ℕ → Word → ℕ
most_bytes few (word.Request r) = asked_bytes few r.ask
most_bytes few (word.Reply r) = told_bytes few r.tell
most_bytes few word.Nothing = 0

-- ---- a dialect

pub record Dialect : Type 1 where
  pub schema : PlainSchema
  pub root : RootOf
  pub frame : Frame
  pub messages : List Message
  pub in_word : Word → Option Inside
  pub CanSpell : Word → Type 0
  -- the word that what is written for a word reads as
  pub back : Word → Word
  -- no schedule has more than one entry
  pub IsBrief : Word → Type 0
  pub few_bytes : ℕ

abbrev pub ReadsAsOne : Dialect → Type 0
ReadsAsOne d =
    let Is : List ℕ → Word → Type 0 = Reads d.schema (tree_word_by d.frame d.messages) in
    (payload : List ℕ) (w v : Word) → Is payload w → Is payload v → w ≡ v

abbrev pub ReadsBack : Dialect → Type 0
ReadsBack d = (w : Word) (payload : List ℕ) → d.CanSpell w → IsWrittenFor d.schema d.root.name d.in_word w payload
    → Reads d.schema (tree_word_by d.frame d.messages) payload (d.back w)

abbrev pub IsSpelled : Dialect → Type 0
IsSpelled d = (w : Word) (own : Inside) → d.CanSpell w → d.in_word w ≡ Some own → HasEncoding d.schema (root_of d.root.name own)

abbrev pub IsShort : Dialect → Type 0
IsShort d = (w : Word) (payload : List ℕ) → d.CanSpell w → IsWrittenFor d.schema d.root.name d.in_word w payload
    → length payload ≤ most_bytes d.few_bytes w

abbrev pub FitsRoom : Dialect → Type 0
FitsRoom d = (w : Word) (own : Inside) (number : ℕ) → d.CanSpell w → d.IsBrief w → d.in_word w ≡ Some own
    → PassesBytes d.schema number (root_of d.root.name own) 1024 → ⊥
