-- Own: the codecs of a car in the dialects, by dialect.
use Rattle.std.specs.Prelude.{ℕ, List}
use Rattle.charge_world.specs.declared.offer.Dialect.{Dialect}
use Rattle.charge_world.specs.declared.offer.Dialect.TheVariants as dialect
use Rattle.session_words.specs.declared.word.Request.{Request}
use Rattle.session_words.specs.declared.word.Word.TheVariants as word
use Rattle.iso_word_messages.specs.Spellable as iso_spellable
use Rattle.din_word_messages.specs.Spellable as din_spellable
use Rattle.car_codec_rules.specs.Iso as iso
use Rattle.car_codec_rules.specs.Din as din

-- the payload that a request is sent as
abbrev pub Encodes : Dialect → Request → List ℕ → Type 0
Encodes dialect.Iso request payload = iso.Encodes request payload
Encodes dialect.Din request payload = din.Encodes request payload

-- a request that the declarations of a dialect can spell
abbrev pub CanSpell : Dialect → Request → Type 0
CanSpell dialect.Iso request = iso_spellable.CanSpell (word.Request request)
CanSpell dialect.Din request = din_spellable.CanSpell (word.Request request)
