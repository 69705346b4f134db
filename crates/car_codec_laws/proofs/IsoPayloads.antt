-- ISO 15118-2:2014: a request has one encoding, and that reads as the request.
use Rattle.std.proofs.Common.{◌≡◌, ℕ, List, Some, ap, subst}
use Rattle.session_words.specs.declared.word.Ask.{Ask}
use Rattle.session_words.specs.declared.word.Request.{Request}
use Rattle.session_words.specs.declared.word.Word.{Word}
use Rattle.session_words.specs.declared.word.Word.TheVariants as word
use Rattle.site_codec_laws.proofs.IsoPayloads.{one_written}
use Rattle.site_codec_laws.proofs.IsoWords.{reads_back}
use Rattle.car_codec_rules.specs.CodecIso.{Reads}
use Rattle.car_spec.specs.Spelled.{read_back}
use Rattle.car_codec_rules.specs.Iso.{Encodes}
use Rattle.car_codec_laws.proofs.Dropped.{same_ask}

pub one_encoded : (request : Request) (a b : List ℕ) → Encodes request a → Encodes request b → a ≡ b
one_encoded request a b e f = one_written (word.Request request) a b e.bytes f.bytes e.written f.written

abbrev asking : Request → Ask → Word
asking request a = word.Request (record request { ask = a })

pub encoded_read : (request : Request) (payload : List ℕ) → Encodes request payload → Reads payload (Some (word.Request (read_back request)))
encoded_read request payload e =
    subst (λ (w : Word). Reads payload (Some w)) (ap (asking request) (same_ask request.ask e.no_profile))
    (reads_back (word.Request request) payload e.can e.written)
