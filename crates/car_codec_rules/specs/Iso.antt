-- ISO 15118-2:2014, section 8.3 (message, header and body): the encoding of a car's request.
use Rattle.std.specs.Prelude.{ℕ, List}
use Rattle.document_laws.specs.Laws.{AreBytes}
use Rattle.session_words.specs.declared.word.Request.{Request}
use Rattle.session_words.specs.declared.word.Word.TheVariants as word
use Rattle.iso_word_messages.specs.Spellable.{CanSpell}
use Rattle.site_codec_rules.specs.IsoPayloads.{IsWrittenFor}
use Rattle.car_codec_rules.specs.Profiles.{HasNoProfile}

-- a request that the declarations can spell, and what is written for it
pub record Encodes (request : Request) (payload : List ℕ) : Type 0 where
  pub can : CanSpell (word.Request request)
  pub no_profile : HasNoProfile request.ask
  pub bytes : AreBytes payload
  pub written : IsWrittenFor (word.Request request) payload
