-- ISO 15118-2:2014, sections 7.9 and 8.2: what a codec answers about a payload.
use Rattle.std.specs.Prelude.{◌≡◌, ℕ, List, Option, Some, Contains}
use Rattle.charge_world.specs.declared.offer.Dialect.{Dialect}
use Rattle.session_words.specs.declared.word.Request.{Request}
use Rattle.session_words.specs.declared.word.Word.{Word}
use Rattle.post_spec.specs.Codecs.{Judged, Negotiated, Asked, judged_word}

-- a payload that reads as this word is judged so
pub record IsJudged (Reads : Option Word → Type 0) (judged : Judged) : Type 0 where
  pub word : Option Word
  pub reads : Reads word
  pub judged_is : judged ≡ judged_word word

-- a dialect that is chosen is one of those on offer
abbrev pub ChoosesOffered : (List Dialect → List ℕ → Judged → Type 0) → Type 0
ChoosesOffered Negotiates = (offers : List Dialect) (payload : List ℕ) (dialect : Dialect) (response : List ℕ)
    → Negotiates offers payload (Negotiated (Some dialect) response) → Contains offers dialect

-- the first payload of a session is never judged a request of a dialect
abbrev pub NegotiatesFirst : (List Dialect → List ℕ → Judged → Type 0) → Type 0
NegotiatesFirst Negotiates = (offers : List Dialect) (payload : List ℕ) (request : Request) → Negotiates offers payload (Asked request) → ⊥
