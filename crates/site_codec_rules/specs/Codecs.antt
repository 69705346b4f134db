-- Own: the codecs of the dialects, by dialect.
use Rattle.std.specs.Prelude.{ℕ, List, Option}
use Rattle.charge_world.specs.declared.offer.Dialect.{Dialect}
use Rattle.charge_world.specs.declared.offer.Dialect.TheVariants as dialect
use Rattle.session_words.specs.declared.word.Reply.{Reply}
use Rattle.session_words.specs.declared.word.Word.{Word}
use Rattle.session_words.specs.declared.word.Word.TheVariants as word
use Rattle.iso_word_laws.specs.Spellable as iso_spellable
use Rattle.din_word_laws.specs.Spellable as din_spellable
use Rattle.site_codec_rules.specs.Iso as iso
use Rattle.site_codec_rules.specs.Din as din

-- what a payload spells in its dialect
abbrev pub Reads : Dialect → List ℕ → Option Word → Type 0
Reads dialect.Iso payload word = iso.Reads payload word
Reads dialect.Din payload word = din.Reads payload word

-- each payload reads as a word, or as none
abbrev pub EachIsRead : Type 0
EachIsRead = (dialect : Dialect) (payload : List ℕ) → (word : Option Word) × Reads dialect payload word

-- the payload that a reply is sent as
abbrev pub Encodes : Dialect → Reply → List ℕ → Type 0
Encodes dialect.Iso reply payload = iso.Encodes reply payload
Encodes dialect.Din reply payload = din.Encodes reply payload

-- a reply that the declarations of a dialect can spell
abbrev pub CanSpell : Dialect → Reply → Type 0
CanSpell dialect.Iso reply = iso_spellable.CanSpell (word.Reply reply)
CanSpell dialect.Din reply = din_spellable.CanSpell (word.Reply reply)
